use Rattle.std.proofs.Common.{map}
use Rattle.pgp_map.specs.NumberSet.{has}
use Rattle.pgp_map.proofs.RepeatLemmas.{HasPut}
use Rattle.pgp_map.proofs.repeats.meets.Given as goal

abbrev pub invariant-loop-item : goal.invariant-loop-item
invariant-loop-item g l = HasPut (has l.fn.seen) (has l.seen) (map g.T.Naming.name l.items) l.item-index
