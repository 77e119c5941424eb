use Rattle.pgp_prior.proofs.BetterLemmas.{no_worse-relieves, not_down-relieved}
use Rattle.pgp_prior.proofs.laws.better_statuses_never_block.Goals as goal

pub returns : goal.returns
returns g c = λ code old new les past better.
    not_down-relieved (g.R.Recoverable.by_place code) (g.R.Recoverable.enough code) (g.met.R.Recoverable.monotone code) les old new past
    (λ p there member in'. no_worse-relieves _ _ (better member.osd p.first))
