use Rattle.std.proofs.Common.{◌≡◌, List, ◌∷◌, ◌++◌, [], length, true, option_map, refl, ap, sym, ◌∙◌, subst}
use Rattle.std.specs.Option.{option_copied}
use Rattle.std.specs.Sync.Mutex.{mutex_guard_value}
use Rattle.pgp_ids.specs.declared.entry.Entry.{Entry}
use Rattle.pgp_group.specs.Touched.{view_at}
use Rattle.pgp_group.specs.View.{scratch}
use Rattle.pgp_text.specs.Reply.{reply_text}
use Rattle.pgp_log.specs.Log.{epoch_of, is_legal, IsFrontOf}
use Rattle.pgp_core.proofs.ReplyLemmas.{told-reply}
use Rattle.pgp_feed.specs.Receipts.{entries_of}
use Rattle.pgp_engine.specs.Shards.{Reader}
use Rattle.pgp_cli.proofs.engine_run.answerer.EngineAnswererAnswerer.put_asked.Goals as goal

pub returns-clause-ok : goal.returns-clause-ok
returns-clause-ok g c =
    let front = λ (s : Reader). s.front in
    let log = entries_of c.receipt.result in
    let told = option_copied c.view_of.result in
    let is : log ≡ (mutex_guard_value c.in-Ok.turn).front = c.receipt.ensures.entries ∙ ap front c.deref.ensures in
    rw (← c.self.view_is)
    (record {
      by = log;
      may = (
        subst (λ (l : List Entry). IsFrontOf (entries_of c.self.inside.at) l) (sym is) c.in-Ok.ensures.holds,
        λ _. subst (λ (l : List Entry). is_legal l ≡ true) (sym is) c.in-Ok.ensures.legal,
      );
      text = c.in_ok-put_view.ensures.ok
          ∙ ap (λ r. c.args.text.now.items ++ (reply_text r ++ 10 ∷ []))
          (told-reply log c.args.pg c.len-count.result c.epoch.result told c.len-count.ensures.length
          (c.epoch.ensures ∙ ap epoch_of (ap front c.deref-3.ensures ∙ sym is))
          (subst (λ (l : List Entry). scratch l c.args.pg ≡ option_map (view_at (length l) (epoch_of l)) told)
          (ap front c.deref-2.ensures ∙ sym is) c.view_of.ensures));
      log = refl;
    })
