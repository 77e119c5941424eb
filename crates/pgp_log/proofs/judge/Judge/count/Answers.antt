use Rattle.pgp_log.proofs.Common.{arith}
use Rattle.pgp_log.proofs.LogLemmas.{legal-short}
use Rattle.pgp_log.proofs.judge.Judge.count.Goals as goal

pub returns-clause-few : goal.returns-clause-few
returns-clause-few c log is = omega (arith, is.count_is, legal-short log is.legal)
