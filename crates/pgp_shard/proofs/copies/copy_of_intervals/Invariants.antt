use Rattle.pgp_shard.proofs.Common.{◌≡◌, take}
use Rattle.pgp_shard.proofs.copies.copy_of_intervals.Given as goal

abbrev pub invariant-loop-interval : goal.invariant-loop-interval
invariant-loop-interval l = l.copy.items ≡ take l.interval-index l.intervals
