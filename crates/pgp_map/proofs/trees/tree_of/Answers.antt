use Rattle.std.proofs.Common.{◌∙◌, sym, ap}
use Rattle.pgp_crush.specs.TreeFault.{may_lack_memory}
use Rattle.pgp_map.proofs.CheckLemmas.{lacks-filled}
use Rattle.pgp_map.proofs.trees.tree_of.Goals as goal

pub returns-clause-wants : goal.returns-clause-wants
returns-clause-wants c = λ memory. lacks-filled c.args.buckets.now (sym (ap may_lack_memory c.in_ok-copies.ensures.ok) ∙ c.check.ensures.wants memory)
