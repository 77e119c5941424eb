use Rattle.pgp_prior.proofs.RaisedLemmas.{down-raised}
use Rattle.pgp_prior.proofs.laws.raised_intervals_never_relieve.Goals as goal

pub returns : goal.returns
returns c = λ enough by_place status les past place. down-raised enough by_place status les place past
