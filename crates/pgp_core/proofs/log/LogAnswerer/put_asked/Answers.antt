use Rattle.std.proofs.Common.{◌∷◌, ◌++◌, [], length, refl, ap, ◌∙◌, rules}
use Rattle.std.specs.Option.{option_copied}
use Rattle.pgp_group.specs.Entries.{incs_of}
use Rattle.pgp_log.specs.Log.{epoch_of}
use Rattle.pgp_text.specs.Reply.{reply_text}
use Rattle.pgp_core.proofs.ReplyLemmas.{told-reply}
use Rattle.pgp_core.proofs.log.LogAnswerer.put_asked.Goals as goal

pub returns-clause-ok : goal.returns-clause-ok
returns-clause-ok c =
    let log = c.args.self.now in
    record {
      by = log;
      may = refl;
      text = c.in_ok-put_view.ensures.ok
          ∙ ap (λ r. c.args.text.now.items ++ (reply_text r ++ 10 ∷ []))
          (told-reply log c.args.pg c.len-count.result c.epoch-epoch.result (option_copied c.in_ok-view.view)
          (c.len-count.ensures ∙ ap length c.self.view_is) (c.epoch-epoch.ensures (incs_of c.self.inside.log) c.map.ensures.map ∙ ap epoch_of c.self.view_is)
          c.in_ok-view.ensures.view);
      log = search rules;
    }
