use Rattle.pgp_prior.proofs.BetterLemmas.{down-worse}
use Rattle.pgp_prior.proofs.laws.worse_statuses_never_relieve.Goals as goal

pub returns : goal.returns
returns g c = λ code old new les past worse.
    down-worse (g.R.Recoverable.by_place code) (g.R.Recoverable.enough code) (g.met.R.Recoverable.monotone code) les old new past worse
