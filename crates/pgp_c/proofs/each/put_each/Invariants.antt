use Rattle.std.proofs.Common.{◌≡◌, map, take, drop, ◌++◌}
use Rattle.pgp_c.proofs.each.put_each.Given as goal

abbrev pub invariant-loop-index : goal.invariant-loop-index
invariant-loop-index g l = l.room ≡ map g.T.AsC.as_c (take l.index l.values) ++ drop l.index l.initial.room
