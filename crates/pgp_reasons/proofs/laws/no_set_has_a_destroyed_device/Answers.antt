use Rattle.pgp_reasons.proofs.WholeWayLemmas.{none-destroyed}
use Rattle.pgp_reasons.proofs.laws.no_set_has_a_destroyed_device.Goals as goal

pub returns : goal.returns
returns c = none-destroyed
