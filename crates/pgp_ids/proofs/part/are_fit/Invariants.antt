use Rattle.std.proofs.Common.{◌≡◌, ◌&&◌, length}
use Rattle.std.specs.List.{list_all}
use Rattle.pgp_ids.specs.Parts.{parts_of, is_part, are_apart}
use Rattle.pgp_ids.proofs.part.are_fit.Given as goal

abbrev pub invariant-loop-first : goal.invariant-loop-first
invariant-loop-first l =
    (list_all (is_part l.size) (parts_of l.rest) && are_apart (parts_of l.rest))
    ≡ (list_all (is_part l.size) (parts_of l.groups) && are_apart (parts_of l.groups))

abbrev pub decreases-loop-first : goal.decreases-loop-first
decreases-loop-first l = length l.rest
