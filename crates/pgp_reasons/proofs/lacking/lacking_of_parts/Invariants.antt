use Rattle.std.proofs.Common.{◌≡◌, ◌+◌, ◌-◌, ◌^◌, ◌<◌, drop, min}
use Rattle.std.specs.List.{sum_by}
use Rattle.pgp_ids.specs.Parts.{parts_of}
use Rattle.pgp_reasons.specs.Lacking.{lacking_of_part}
use Rattle.pgp_reasons.proofs.lacking.lacking_of_parts.Given as goal

-- what was counted, with what is left to count, is all
abbrev pub invariant-loop-group : goal.invariant-loop-group
invariant-loop-group l =
    (min (l.all + sum_by (lacking_of_part l.slots) (parts_of (drop l.group-index l.groups))) (2 ^ 64 - 1)
    ≡ min (sum_by (lacking_of_part l.slots) (parts_of l.groups)) (2 ^ 64 - 1))
    × (l.all < 2 ^ 64)
