use Rattle.pgp_log.proofs.Common.{incs_of}
use Rattle.pgp_group.proofs.GrowthLemmas.{counts}
use Rattle.pgp_log.proofs.LogLemmas.{legal-ascends, legal-checked}
use Rattle.pgp_log.proofs.laws.epochs_of_a_legal_log.Goals as goal

pub returns-clause-ascend : goal.returns-clause-ascend
returns-clause-ascend c = legal-ascends

pub returns-clause-counts : goal.returns-clause-counts
returns-clause-counts c = λ log legal each. (counts (incs_of log) (legal-checked log legal) each).0
