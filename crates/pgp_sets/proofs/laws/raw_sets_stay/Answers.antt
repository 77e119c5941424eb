use Rattle.pgp_sets.proofs.RawSetLemmas.{raw_set-stays, unmoved-unplaced}
use Rattle.pgp_sets.proofs.laws.raw_sets_stay.Goals as goal

pub returns-clause-stay : goal.returns-clause-stay
returns-clause-stay c = raw_set-stays

pub returns-clause-unmoved : goal.returns-clause-unmoved
returns-clause-unmoved c = unmoved-unplaced
