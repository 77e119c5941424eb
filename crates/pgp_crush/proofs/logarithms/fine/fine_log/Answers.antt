use Rattle.std.proofs.Common.{refl, arith}
use Rattle.pgp_crush.specs.declared.logarithms.fine.TheConstants.{FINE_LOGS}
use Rattle.pgp_crush.specs.Logarithm.{log_digits, fine_log}
use Rattle.pgp_crush.proofs.LogarithmLemmas.{all_below, entry_is, entry_within}
use Rattle.pgp_crush.proofs.logarithms.fine.fine_log.Goals as goal

pub returns-clause-value : goal.returns-clause-value
unfolding all_below log_digits
returns-clause-value c = entry_is FINE_LOGS (λ k. fine_log k) 256 refl c.args.i (omega arith)

pub returns-clause-within : goal.returns-clause-within
unfolding all_below
returns-clause-within c = omega (arith, entry_within FINE_LOGS (λ _. 1) 4398046511104 256 refl c.args.i (omega arith))
