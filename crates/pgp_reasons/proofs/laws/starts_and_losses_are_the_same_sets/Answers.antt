use Rattle.pgp_reasons.proofs.SameWayLemmas.{same-down}
use Rattle.pgp_reasons.proofs.laws.starts_and_losses_are_the_same_sets.Goals as goal

pub returns : goal.returns
returns c = same-down
