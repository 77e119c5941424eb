use Rattle.std.proofs.Common.{arith}
use Rattle.pgp_lists.proofs.Results.{on_err}
use Rattle.pgp_map.proofs.map.OsdMap.apply.Goals as goal

pub returns-in_err-tree-clause-wants : goal.returns-in_err-tree-clause-wants
returns-in_err-tree-clause-wants c = on_err c.from_residual.result _ (λ incs is. grind (arith, c.in_err-tree.ensures.wants))
