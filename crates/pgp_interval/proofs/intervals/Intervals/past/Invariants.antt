use Rattle.std.proofs.Common.{◌≡◌, take}
use Rattle.pgp_interval.proofs.intervals.Intervals.past.Given as goal

abbrev pub invariant-loop-interval : goal.invariant-loop-interval
invariant-loop-interval g l = l.past.items ≡ take l.interval-index l.interval-items
