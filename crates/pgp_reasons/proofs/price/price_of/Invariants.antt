use Rattle.std.proofs.Common.{◌≡◌, map, take}
use Rattle.std.specs.List.{filter}
use Rattle.pgp_map.specs.Held.{held_lost_at}
use Rattle.pgp_sets.specs.Status.{held_status}
use Rattle.pgp_reasons.specs.Fates.{interval_now}
use Rattle.pgp_reasons.specs.Price.{concerns}
use Rattle.pgp_reasons.specs.Ways.{status_after}
use Rattle.pgp_reasons.proofs.price.price_of.Given as goal

abbrev pub invariant-loop-interval : goal.invariant-loop-interval
invariant-loop-interval l =
    l.intervals.items ≡ map (interval_now l.code (status_after l.starts l.losses (held_status l.map)) (held_lost_at l.map))
    (filter (concerns l.code (held_status l.map) (status_after l.starts l.losses (held_status l.map)) l.view.les) (take l.interval-index l.past))
