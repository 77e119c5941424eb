use Rattle.std.proofs.Common.{◌≡◌, nat_le, drop}
use Rattle.std.specs.List.{list_all}
use Rattle.pgp_ids.specs.Parts.{parts_of}
use Rattle.pgp_code.proofs.grouped.each_wants_a_slot.Given as goal

abbrev pub invariant-loop-group : goal.invariant-loop-group
invariant-loop-group l =
    list_all (λ part. nat_le 1 part.least) (parts_of l.groups) ≡ list_all (λ part. nat_le 1 part.least) (parts_of (drop l.group-index l.groups))
