use Rattle.std.proofs.Common.{refl, arith}
use Rattle.pgp_crush.specs.declared.logarithms.coarse.TheConstants.{COARSE_LOGS}
use Rattle.pgp_crush.specs.Logarithm.{log_digits, coarse_log}
use Rattle.pgp_crush.proofs.LogarithmLemmas.{all_below, entry_is, entry_within}
use Rattle.pgp_crush.proofs.logarithms.coarse.coarse_log.Goals as goal

pub returns-clause-value : goal.returns-clause-value
unfolding all_below log_digits
returns-clause-value c = entry_is COARSE_LOGS (λ k. coarse_log k) 129 refl c.args.k (omega arith)

pub returns-clause-within : goal.returns-clause-within
unfolding all_below
returns-clause-within c = omega (arith, entry_within COARSE_LOGS (λ _. 1) 281474976710656 129 refl c.args.k (omega arith))
