use Rattle.std.proofs.Common.{rules}
use Rattle.pgp_map.proofs.WeightLemmas.{full_weights}
use Rattle.pgp_map.proofs.weights.Weights.as_slice.Goals as goal

pub returns-then-is_empty-clause-value : goal.returns-then-is_empty-clause-value
returns-then-is_empty-clause-value c = λ q below. full_weights c.args.self.now.table.items 4096 65536 q (search rules)
