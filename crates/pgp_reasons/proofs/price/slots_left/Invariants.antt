use Rattle.std.proofs.Common.{true, nat_lt, drop}
use Rattle.pgp_code.specs.AnyCode.{is_by_place}
use Rattle.pgp_prior.proofs.Lists.{IsWalk}
use Rattle.pgp_reasons.specs.Fates.{held_slots}
use Rattle.pgp_reasons.specs.Price.{is_rw, slots_left}
use Rattle.pgp_reasons.proofs.price.slots_left.Given as goal

-- the slots so far, with those of the intervals that are left, are all that are left
abbrev pub invariant-loop-interval : goal.invariant-loop-interval
invariant-loop-interval g l =
    IsWalk nat_lt (held_slots true (is_by_place l.code) (g.S.StatusOf.status_of l.statuses)) is_rw (slots_left l.code (g.S.StatusOf.status_of l.statuses) l.past) (drop l.interval-index l.past) l.slots
