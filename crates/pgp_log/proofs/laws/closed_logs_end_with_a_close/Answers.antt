use Rattle.pgp_log.proofs.LogLemmas.{closed-ends}
use Rattle.pgp_log.proofs.laws.closed_logs_end_with_a_close.Goals as goal

pub returns : goal.returns
returns c = closed-ends
