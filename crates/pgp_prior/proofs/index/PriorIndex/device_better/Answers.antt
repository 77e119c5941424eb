use Rattle.pgp_prior.specs.declared.judged_interval.Change.TheVariants.{Better}
use Rattle.pgp_prior.proofs.BetterLemmas.{no_worse-relieves, not_down-relieved}
use Rattle.pgp_prior.proofs.KeptLemmas.{allowed}
use Rattle.pgp_prior.proofs.index.PriorIndex.device_better.Goals as goal

pub returns-clause-relief : goal.returns-clause-relief
returns-clause-relief g c = λ b status is.
    not_down-relieved (g.R.Recoverable.by_place b.code) (g.R.Recoverable.enough b.code) (g.met.R.Recoverable.monotone b.code) b.les b.status status b.past
    (λ p there m in'. no_worse-relieves _ _ (allowed (g.R.Recoverable.by_place b.code) Better c.args.osd (g.S.StatusOf.status_of c.args.statuses.now) b.status status p (is p there) m in'))
