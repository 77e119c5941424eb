use Rattle.pgp_compact.proofs.TwiceLemmas.{compacted-twice}
use Rattle.pgp_compact.proofs.laws.compacting_twice_is_compacting_once.Goals as goal

pub returns : goal.returns
returns c = compacted-twice
