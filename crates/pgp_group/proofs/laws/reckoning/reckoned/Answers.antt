use Rattle.pgp_group.proofs.ServedLemmas.{reckoned, served_again}
use Rattle.pgp_group.proofs.laws.reckoning.reckoned.Goals as goal

pub returns-clause-interval : goal.returns-clause-interval
returns-clause-interval c = reckoned

pub returns-clause-again : goal.returns-clause-again
returns-clause-again c = served_again
