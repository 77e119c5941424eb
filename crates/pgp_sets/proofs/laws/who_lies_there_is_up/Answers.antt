use Rattle.pgp_sets.proofs.UpLemmas.{up-are_up, acting-are_up}
use Rattle.pgp_sets.proofs.laws.who_lies_there_is_up.Goals as goal

pub returns-clause-up : goal.returns-clause-up
returns-clause-up c = up-are_up

pub returns-clause-acting : goal.returns-clause-acting
returns-clause-acting c = acting-are_up
