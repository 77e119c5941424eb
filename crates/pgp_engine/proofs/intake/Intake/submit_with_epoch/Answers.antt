use Rattle.std.proofs.Common.{List, refl, ap, sym, ◌∙◌}
use Rattle.pgp_ids.specs.declared.entry.Entry.{Entry}
use Rattle.pgp_log.specs.Log.{epoch_of}
use Rattle.pgp_feed.specs.Receipts.{entries_of}
use Rattle.pgp_feed.specs.Feeds.{told_of}
use Rattle.pgp_engine.specs.Intakes.{ToldLog}
use Rattle.pgp_engine.proofs.JudgeLemmas.{published}
use Rattle.pgp_engine.proofs.intake.Intake.submit_with_epoch.Goals as goal

pub returns-clause-log : goal.returns-clause-log
returns-clause-log g c =
    published c.in_ok-at.at (told_of c.self.inside.feed) (told_of c.publish.new.feed) c.args.self.now.log c.args.entry c.args.entry (ap (λ (t : ToldLog). t.log) c.self.view_is)
    refl c.in_ok-at.ensures.published

pub returns-clause-epoch : goal.returns-clause-epoch
returns-clause-epoch g c =
    let told : List Entry = entries_of (told_of c.self.inside.feed) in
    c.epoch_with-epoch.ensures told c.in_ok-judge_next.ensures.ok ∙ ap epoch_of (sym c.in_ok-at.ensures.published.1)
