use Rattle.std.proofs.Common.{inl, inr, rules, subst}
use Rattle.pgp_ids.specs.declared.entry.Entry.TheVariants as entry
use Rattle.pgp_c.specs.Submit.{TellsEntry}
use Rattle.pgp_c.proofs.report.submit_entries.Goals as goal

pub returns-in-Ok : goal.returns-in-Ok
returns-in-Ok c = record {
  bad = λ no. absurd (no c.in-Ok.ensures.0);
  good = λ is. inl (subst (λ report. TellsEntry c.args.session.now c.tell.new.session (entry.Entries report) c.tell.result) c.in-Ok.ensures.1 c.tell.ensures);
}

pub returns-in-Err : goal.returns-in-Err
returns-in-Err c = elim c.in-Err.ensures [
  | inl lacks ↦ record { bad = λ no. absurd (no lacks.0); good = λ is. inr (record { same = search rules; status_is = search rules }) }
  | inr isnt ↦ record { bad = λ no. search rules; good = λ is. absurd (isnt.0 is) }
]
