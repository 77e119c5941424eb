use Rattle.std.proofs.Common.{List, ◌++◌, ap, sym, ◌∙◌}
use Rattle.pgp_reasons.specs.declared.gap.Gap.{Gap}
use Rattle.pgp_reasons.proofs.GapLemmas.{run-of-above}
use Rattle.pgp_reasons.proofs.gaps.add_run.Goals as goal

pub returns-in_ok-push : goal.returns-in_ok-push
returns-in_ok-push c =
    c.in_ok-push.ensures.items
    ∙ ap (λ (runs : List Gap). c.args.gaps.now.items ++ runs) (sym (run-of-above c.args.after c.args.last c.if-after-last.true))
