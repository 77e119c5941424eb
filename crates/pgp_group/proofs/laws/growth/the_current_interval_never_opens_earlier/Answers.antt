use Rattle.pgp_group.proofs.FirstLemmas.{first-opens}
use Rattle.pgp_group.proofs.laws.growth.the_current_interval_never_opens_earlier.Goals as goal

pub returns-clause-opens : goal.returns-clause-opens
returns-clause-opens c = first-opens
