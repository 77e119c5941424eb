use Rattle.std.proofs.Common.{◌≡◌, drop}
use Rattle.std.specs.List.{list_all}
use Rattle.pgp_ids.specs.Parts.{parts_of, is_apart}
use Rattle.pgp_ids.proofs.part.is_apart_from_all.Given as goal

abbrev pub invariant-loop-group : goal.invariant-loop-group
invariant-loop-group l =
    list_all (is_apart l.part) (parts_of l.others) ≡ list_all (is_apart l.part) (parts_of (drop l.group-index l.others))
