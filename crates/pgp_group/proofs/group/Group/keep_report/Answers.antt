use Rattle.pgp_group.proofs.Common.{◌≡◌, ◌++◌, [], ◌∷◌, true, false, ap, arith, refl, subst, sym, ◌∙◌, PgId, with_item, is_same_group, incs_of, group_with}
use Rattle.pgp_ids.specs.declared.entry.Entry.TheVariants as entry
use Rattle.pgp_group.proofs.GroupLemmas.{IsGroupOf-other, infos-kept, infos-same, names-kept, past-same, reports-kept, reports-new, reports-other, reports-told, same_after_error}
use Rattle.pgp_group.proofs.GrowthLemmas.{history-last}
use Rattle.pgp_group.proofs.NamedLemmas.{before, KeepsNames-report}
use Rattle.pgp_group.proofs.group.Group.keep_report.Goals as goal

pub returns-in_ok-push-clause-ok : goal.returns-in_ok-push-clause-ok
returns-in_ok-push-clause-ok c = λ log pg is.
    let report = c.args.report.now in
    let same : is_same_group report.pg pg ≡ true = subst (λ (q : PgId). is_same_group report.pg q ≡ true) is.keeps.pg_is (sym c.eq.ensures ∙ c.if-eq.true) in
    IsGroupOf-other log (entry.Entries report) pg c.args.self.now _ is refl (infos-same log (entry.Entries report) pg refl) refl refl
    (infos-kept log (entry.Entries report) pg is.history c.args.self.now.infos refl (infos-same log (entry.Entries report) pg refl) is.keeps.infos_are)
    (c.in_ok-push.ensures.ok (group_with log pg is.history) (group_with (log ++ entry.Entries report ∷ []) pg is.history)
    (omega (arith, c.last.ensures, is.keeps.intervals_are.last_is, history-last (incs_of log) pg is.history is.ascend is.history_is))
    (reports-told log report pg is.history same) is.keeps.reports_are)
    (KeepsNames-report (group_with log pg is.history) (group_with (log ++ entry.Entries report ∷ []) pg is.history) c.args.self.now.named c.add.new.self report
    (past-same (group_with log pg is.history) (group_with (log ++ entry.Entries report ∷ []) pg is.history) refl (infos-same log (entry.Entries report) pg refl))
    (infos-same log (entry.Entries report) pg refl) (reports-new log report pg same) (c.add.ensures.osds ∙ ap (with_item before report.member.osd) c.make_room_for.ensures.same) is.keeps.named_are)

pub returns-else-eq-clause-ok : goal.returns-else-eq-clause-ok
returns-else-eq-clause-ok c = λ log pg is.
    let report = c.args.report.now in
    let differ : is_same_group report.pg pg ≡ false = subst (λ (q : PgId). is_same_group report.pg q ≡ false) is.keeps.pg_is (sym c.eq.ensures ∙ c.if-eq.false) in
    IsGroupOf-other log (entry.Entries report) pg c.args.self.now _ is refl (infos-same log (entry.Entries report) pg refl) refl refl
    (infos-kept log (entry.Entries report) pg is.history c.args.self.now.infos refl (infos-same log (entry.Entries report) pg refl) is.keeps.infos_are)
    (reports-kept log (entry.Entries report) pg is.history c.args.self.now.reports refl (reports-other log report pg differ) is.keeps.reports_are)
    (names-kept log (entry.Entries report) pg is.history c.args.self.now.named (infos-same log (entry.Entries report) pg refl) (reports-other log report pg differ) is.keeps.named_are)

pub returns-in_err-make_room_for-clause-err : goal.returns-in_err-make_room_for-clause-err
returns-in_err-make_room_for-clause-err c =
    same_after_error c.from_residual.result c.args.self.now _ refl refl (λ g kept. kept) (λ g kept. kept) c.make_room_for.ensures.same refl

pub returns-in_err-push-clause-err : goal.returns-in_err-push-clause-err
returns-in_err-push-clause-err c =
    same_after_error c.from_residual-in_err-push.result c.args.self.now _ refl refl (λ g kept. kept) c.in_err-push.ensures.err c.make_room_for.ensures.same refl
