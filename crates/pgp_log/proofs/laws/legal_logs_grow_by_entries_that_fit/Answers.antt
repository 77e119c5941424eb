use Rattle.pgp_log.proofs.LogLemmas.{front-legal, legal-last, legal-snoc}
use Rattle.pgp_log.proofs.laws.legal_logs_grow_by_entries_that_fit.Goals as goal

pub returns : goal.returns
returns c = record { front = front-legal; last = legal-last; longer = legal-snoc }
