use Rattle.pgp_group.proofs.UntouchedLemmas.{untouched-stays}
use Rattle.pgp_group.proofs.laws.touched.untouched_groups_stay_as_they_were.Goals as goal

pub returns : goal.returns
returns c = untouched-stays
