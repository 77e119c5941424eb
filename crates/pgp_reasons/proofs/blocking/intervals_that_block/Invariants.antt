use Rattle.std.proofs.Common.{◌≡◌, map, take}
use Rattle.pgp_map.specs.Held.{held_lost_at}
use Rattle.pgp_sets.specs.Status.{held_status}
use Rattle.pgp_reasons.specs.Blocking.{blocking_of}
use Rattle.pgp_reasons.proofs.blocking.intervals_that_block.Given as goal

abbrev pub invariant-loop-interval : goal.invariant-loop-interval
invariant-loop-interval l =
    l.list.items ≡ blocking_of l.code (held_status l.map) (held_lost_at l.map) (map (λ info. info.last_epoch_clean) l.infos) l.les (take l.interval-index l.past)
