use Rattle.pgp_sets.proofs.UpLemmas.{up-at_most, up-size}
use Rattle.pgp_sets.proofs.laws.up_sets_have_their_size.Goals as goal

pub returns-clause-at_most : goal.returns-clause-at_most
returns-clause-at_most c = up-at_most

pub returns-clause-by_place : goal.returns-clause-by_place
returns-clause-by_place c = up-size
