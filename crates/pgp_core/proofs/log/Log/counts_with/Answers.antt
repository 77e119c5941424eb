use Rattle.std.proofs.Common.{sym, subst, ap, rules, ◌∙◌}
use Rattle.pgp_log.proofs.LogLemmas.{legal-short}
use Rattle.pgp_core.specs.Counts.{AreFew, counts_with}
use Rattle.pgp_core.proofs.CountsLemmas.{are-few, counts-next}
use Rattle.pgp_core.proofs.log.Log.counts_with.Goals as goal

pub with-requires : goal.with-requires
with-requires c =
    subst AreFew (sym c.self.invariant.counts_are) (are-few c.self.inside.log (legal-short c.self.inside.log (search rules)))

pub returns : goal.returns
returns c =
    rw (← c.self.view_is)
    (c.with.ensures ∙ ap (λ counts. counts_with counts c.args.entry.now) c.self.invariant.counts_are ∙ sym (counts-next c.self.inside.log c.args.entry.now))
