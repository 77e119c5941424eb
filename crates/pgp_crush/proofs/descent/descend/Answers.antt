use Rattle.std.proofs.Common.{◌+◌, ◌-◌, arith}
use Rattle.pgp_crush.proofs.descent.descend.Goals as goal

pub returns-in-End-clause-value : goal.returns-in-End-clause-value
returns-in-End-clause-value c = grind (arith, c.level_at.ensures.value (10 - (c.loop-level._level + 1)))

pub loop-level-preserved : goal.loop-level-preserved
loop-level-preserved c = grind (arith, c.level_at.ensures.value (10 - (c.loop-level._level + 1)), c.level_at.ensures.weighed)
