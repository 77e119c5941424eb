use Rattle.pgp_ids.specs.Past.{with_rw}
use Rattle.pgp_prior.proofs.KeptLemmas.{judged}
use Rattle.pgp_prior.proofs.judged_interval.JudgedInterval.raise.Goals as goal

pub returns-then-not-self-clause-kept : goal.returns-then-not-self-clause-kept
returns-then-not-self-clause-kept g c = λ status was.
    let kept = c.args.self.now in
    let code = c.args.code.now in
    judged (g.R.Recoverable.by_place code) (g.R.Recoverable.enough code) (g.met.R.Recoverable.monotone code) status c.args.les
    (record { past = with_rw kept.past; statuses = kept.statuses; blocks = c.blocks-self.result })
    was.statuses_are c.blocks-self.ensures
