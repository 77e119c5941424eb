use Rattle.std.proofs.Common.{refl, sym, ◌∙◌, inl, inr}
use Rattle.pgp_prior.proofs.KeptLemmas.{renewed-kept}
use Rattle.pgp_prior.proofs.judged_interval.JudgedInterval.renew.Goals as goal

pub returns-then-rechecks-clause-kept : goal.returns-then-rechecks-clause-kept
returns-then-rechecks-clause-kept g c = λ old new was is.
    renewed-kept (g.R.Recoverable.by_place c.args.code.now) (g.R.Recoverable.enough c.args.code.now) (g.met.R.Recoverable.monotone c.args.code.now) c.args.change c.args.osd
    (g.S.StatusOf.status_of c.args.statuses.now) old new c.args.les c.args.self.now c.set.new.self c.blocks-self.result was is (rw c.status.ensures at c.set.ensures) (inl c.blocks-self.ensures)

pub returns-else-rechecks-clause-kept : goal.returns-else-rechecks-clause-kept
returns-else-rechecks-clause-kept g c = λ old new was is.
    renewed-kept (g.R.Recoverable.by_place c.args.code.now) (g.R.Recoverable.enough c.args.code.now) (g.met.R.Recoverable.monotone c.args.code.now) c.args.change c.args.osd
    (g.S.StatusOf.status_of c.args.statuses.now) old new c.args.les c.args.self.now c.set.new.self c.args.self.now.blocks was is (rw c.status.ensures at c.set.ensures)
    (inr (refl, sym c.rechecks.ensures ∙ c.if-rechecks.false))
