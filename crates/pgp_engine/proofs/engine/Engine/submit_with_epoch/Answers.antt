use Rattle.std.proofs.Common.{List, ap, sym, subst}
use Rattle.pgp_ids.specs.declared.entry.Entry.{Entry}
use Rattle.pgp_log.specs.Log.{IsFrontOf}
use Rattle.pgp_feed.specs.Receipts.{entries_of}
use Rattle.pgp_engine.specs.Intakes.{ToldLog}
use Rattle.pgp_engine.proofs.SubmitLemmas.{submitted}
use Rattle.pgp_engine.proofs.engine.Engine.submit_with_epoch.Goals as goal

pub returns-then-is_ok-clause-submitted : goal.returns-then-is_ok-clause-submitted
returns-then-is_ok-clause-submitted g c =
    submitted c.submit_with_epoch-submitted.result g.J.Naming.feed c.args.q.now c.deref_mut.result.now.log c.submit_with_epoch-submitted.new.self.log c.args.entry c.requires
    (subst (λ (l : List Entry). IsFrontOf (entries_of c.args.q.now) l) (ap (λ (t : ToldLog). t.log) (sym c.deref_mut.ensures.value)) c.intake_turn-turn.ensures) c.submit_with_epoch-submitted.ensures.log c.submit_with_epoch-submitted.ensures.told

pub returns-else-is_ok-clause-submitted : goal.returns-else-is_ok-clause-submitted
returns-else-is_ok-clause-submitted g c =
    submitted c.submit_with_epoch-submitted.result g.J.Naming.feed c.args.q.now c.deref_mut.result.now.log c.submit_with_epoch-submitted.new.self.log c.args.entry c.requires
    (subst (λ (l : List Entry). IsFrontOf (entries_of c.args.q.now) l) (ap (λ (t : ToldLog). t.log) (sym c.deref_mut.ensures.value)) c.intake_turn-turn.ensures) c.submit_with_epoch-submitted.ensures.log c.submit_with_epoch-submitted.ensures.told
