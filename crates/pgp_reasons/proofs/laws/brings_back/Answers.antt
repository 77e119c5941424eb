use Rattle.pgp_reasons.proofs.WayLemmas.{brought_back}
use Rattle.pgp_reasons.proofs.laws.brings_back.Goals as goal

pub returns : goal.returns
returns c = brought_back
