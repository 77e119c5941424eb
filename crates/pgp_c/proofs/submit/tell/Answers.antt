use Rattle.std.proofs.Common.{◌≡◌, inl, inr, List, None, sym, ◌∙◌}
use Rattle.std.proofs.lemmas.Option.{none-some}
use Rattle.pgp_ids.specs.declared.entry.Entry.{Entry}
use Rattle.pgp_group.specs.Entries.{inc_of}
use Rattle.pgp_log.specs.Fits.{fits}
use Rattle.pgp_lines.specs.declared.command.Command.TheVariants.{Submit}
use Rattle.pgp_core.specs.Wants.{MayFindNone}
use Rattle.pgp_c.proofs.submit.tell.Goals as goal

-- only at an incremental may the map lack memory before the log takes the entry
takes : (log : List Entry) (entry : Entry) → MayFindNone log (Submit entry) → inc_of entry ≡ None → fits log entry ≡ None
takes log entry (inl fit) other = fit
takes log entry (inr (open_log, lacks)) other = absurd (none-some lacks.inc (sym other ∙ lacks.is_inc))

pub returns : goal.returns
returns c =
    let may : MayFindNone c.args.session.now.log (Submit c.args.entry) = c.in-Err.ensures.memory in
    record {
      answer = c.submit.ensures.answer;
      format = c.submit.ensures.format;
      told = inr (record { may = may; takes = takes c.args.session.now.log c.args.entry may; log = c.in-Err.ensures.kept; status_is = c.number-in-Err.ensures });
    }
