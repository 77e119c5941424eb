use Rattle.pgp_log.proofs.Common.{[], ap₂, ◌∙◌, arc_value, fits}
use Rattle.pgp_log.proofs.SharedLemmas.{next-of-legal}
use Rattle.pgp_log.proofs.judged_log.JudgedLog.over.Goals as goal

pub take_shared-requires : goal.take_shared-requires
take_shared-requires c =
    ap₂ fits c.loop-entry.invariant c.in_ok-try_clone.ensures
    ∙ next-of-legal [] arc_value c.args.entries.now c.loop-entry.entry-index c.entry-item.result c.requires c.loop-entry-test.true c.entry-item.is
