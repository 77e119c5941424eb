use Rattle.std.proofs.Common.{nat_lt, drop}
use Rattle.pgp_prior.specs.Blocks.{down_osds}
use Rattle.pgp_prior.proofs.Lists.{IsWalk}
use Rattle.pgp_sets.specs.Status.{held_status}
use Rattle.pgp_reasons.specs.Short.{fallen, is_since}
use Rattle.pgp_reasons.proofs.short.short_of.Given as goal

-- the list, with the devices of the intervals that are left, has all that are down
abbrev pub invariant-loop-interval : goal.invariant-loop-interval
invariant-loop-interval l =
    IsWalk nat_lt (down_osds l.by_place (held_status l.map)) (is_since l.view.les) (fallen l.by_place (held_status l.map) l.view.les l.past) (drop l.interval-index l.past) l.fallen.items
