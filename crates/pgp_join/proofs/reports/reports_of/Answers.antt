use Rattle.std.proofs.Common.{◌≡◌, ◌+◌, ◌++◌, ◌∷◌, [], ap, sym, ◌∙◌, take, option_map, append-nil, Some, None, Bor, arith}
use Rattle.std.specs.Arc.{arc_value}
use Rattle.std.proofs.lemmas.Grind.{common_steps}
use Rattle.pgp_ids.specs.declared.report.Report.{Report}
use Rattle.pgp_group.specs.Entries.{report_of}
use Rattle.pgp_join.proofs.SameLemmas.{picked-more}
use Rattle.pgp_join.proofs.reports.reports_of.Goals as goal
use Rattle.pgp_join.proofs.reports.reports_of.Goals.{in-Some+in_ok-push, in_default}

pub loop-entry-preserved : goal.loop-entry-preserved
loop-entry-preserved c =
    let entry = c.entry-item.result in
    let i = c.loop-entry.entry-index in
    let more : take (i + 1) c.args.entries.now ≡ take i c.args.entries.now ++ entry ∷ [] = grind (arith, common_steps) in
    let value = λ (it : Bor Report). it.now in
    let picked = ap report_of (sym c.deref.ensures) ∙ sym c.report_of.ensures in
    elim c.match-report_of.branch [
      | in-Some+in_ok-push w ↦
          picked-more report_of arc_value value _ _ entry (Some w.in-Some.report) _ _ more (picked ∙ ap (option_map value) w.in-Some.is)
          (ap (λ v. v.items) w.reports-is ∙ w.in_ok-push.ensures.items) c.loop-entry.invariant
      | in_default w ↦
          picked-more report_of arc_value value _ _ entry None _ _ more (picked ∙ ap (option_map value) w.in_default.is)
          (ap (λ v. v.items) w.reports-is ∙ sym (append-nil _)) c.loop-entry.invariant
    ]
