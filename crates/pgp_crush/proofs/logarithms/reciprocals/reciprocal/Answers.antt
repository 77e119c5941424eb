use Rattle.std.proofs.Common.{◌+◌, ◌*◌, refl, arith}
use Rattle.pgp_crush.specs.declared.logarithms.reciprocals.TheConstants.{RECIPROCALS}
use Rattle.pgp_crush.specs.Logarithm.{reciprocal}
use Rattle.pgp_crush.proofs.LogarithmLemmas.{all_below, entry_is, entry_within}
use Rattle.pgp_crush.proofs.logarithms.reciprocals.reciprocal.Goals as goal

pub returns-clause-value : goal.returns-clause-value
unfolding all_below
returns-clause-value c = entry_is RECIPROCALS (λ k. reciprocal k) 129 refl c.args.k (omega arith)

pub returns-clause-room : goal.returns-clause-room
unfolding all_below
returns-clause-room c = entry_within RECIPROCALS (λ k. (k + 129) * 256) 18446744073709551616 129 refl c.args.k (omega arith)
