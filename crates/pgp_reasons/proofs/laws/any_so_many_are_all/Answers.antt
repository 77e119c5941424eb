use Rattle.pgp_reasons.proofs.WholeWayLemmas.{any-all}
use Rattle.pgp_reasons.proofs.laws.any_so_many_are_all.Goals as goal

pub returns : goal.returns
returns c = any-all
