use Rattle.pgp_compact.proofs.AgainLemmas.{compacted-again}
use Rattle.pgp_compact.proofs.LegalLemmas.{legal-sent}
use Rattle.pgp_compact.proofs.laws.compacting_as_one_goes_is_compacting_once.Goals as goal

pub returns : goal.returns
returns c = λ log more legal checked. compacted-again c.what_does_not_count_never_counts_again.ensures log more checked (legal-sent log legal)
