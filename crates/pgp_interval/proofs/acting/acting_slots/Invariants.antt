use Rattle.std.proofs.Common.{◌≡◌, None, filter, is_some, get_or}
use Rattle.std.specs.List.{range_with_len}
use Rattle.pgp_interval.proofs.acting.acting_slots.Given as goal

abbrev pub invariant-loop-slot : goal.invariant-loop-slot
invariant-loop-slot l = l.slots ≡ filter (λ place. is_some (get_or l.acting place None)) (range_with_len 0 l.slot)
