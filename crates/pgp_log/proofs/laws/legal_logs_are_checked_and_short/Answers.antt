use Rattle.pgp_log.proofs.LogLemmas.{legal-checked, legal-short, open-short}
use Rattle.pgp_log.proofs.laws.legal_logs_are_checked_and_short.Goals as goal

pub returns : goal.returns
returns c = record { checked = legal-checked; short = legal-short; room = open-short }
