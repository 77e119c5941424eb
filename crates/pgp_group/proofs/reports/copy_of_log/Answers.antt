use Rattle.pgp_group.proofs.Common.{◌++◌, [], ◌∷◌, ◌∙◌}
use Rattle.pgp_group.proofs.Lists.{take-next}
use Rattle.pgp_group.proofs.reports.copy_of_log.Goals as goal

pub loop-entry-preserved : goal.loop-entry-preserved
loop-entry-preserved c =
    let entry = c.entry-item.result in
    rw (take-next c.args.log.now c.loop-entry.entry-index entry c.loop-entry-test.true c.entry-item.is)
    (c.in_ok-push.ensures.items ∙ (λ i. c.loop-entry.invariant i ++ record { version = entry.version; change = entry.change; object = c.in_ok-clone.ensures.value i } ∷ []))
