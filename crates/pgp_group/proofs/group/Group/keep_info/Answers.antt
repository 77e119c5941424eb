use Rattle.pgp_group.proofs.Common.{◌≡◌, ◌≤◌, ℕ, List, ◌++◌, [], ◌∷◌, true, false, ap, arith, refl, subst, sym, ◌∙◌, enough_of, is_by_place, PgId, IsIntervalsOf, with_item, epoch, is_same_group, incs_of, GroupLog, cleans, group_with, KeepsInfos, KeepsNames, KeepsReports}
use Rattle.pgp_ids.specs.declared.entry.Entry.TheVariants as entry
use Rattle.pgp_group.proofs.GroupLemmas.{IsGroupOf-other, cleans-told, infos-kept, infos-new, infos-other, infos-told, les-grows, names-kept, reports-kept, reports-same, stood-told, IsGroupOf-report, same_after_error}
use Rattle.pgp_group.proofs.GrowthLemmas.{history-last}
use Rattle.pgp_group.proofs.NamedLemmas.{before, KeepsNames-info}
use Rattle.pgp_group.proofs.group.Group.keep_info.Goals as goal

pub returns-in_ok-push-clause-ok : goal.returns-in_ok-push-clause-ok
returns-in_ok-push-clause-ok c = λ log pg come is.
    let info = c.args.info.now in
    let now = c.args.self.now in
    let g : GroupLog = group_with log pg is.history in
    let after : GroupLog = group_with (log ++ entry.Info info ∷ []) pg is.history in
    let same : is_same_group info.pg pg ≡ true = subst (λ (q : PgId). is_same_group info.pg q ≡ true) is.keeps.pg_is (sym c.eq.ensures ∙ c.if-eq.true) in
    let last : now.intervals.last ≡ epoch (incs_of log) = is.keeps.intervals_are.last_is ∙ history-last (incs_of log) pg is.history is.ascend is.history_is in
    let known : info.last_epoch_clean ≤ now.intervals.last = omega (arith, come same, last) in
    let epochs = cleans-told log info pg is.history same in
    IsGroupOf-report log (entry.Info info) pg now c.take_clean.new.self is refl (record {
      pg_is = c.take_clean.ensures.pg ∙ is.keeps.pg_is;
      intervals_are = subst (λ (told : List ℕ). IsIntervalsOf enough_of is_by_place is.history told c.take_clean.new.self.intervals) (sym epochs)
          (c.take_clean.ensures.intervals is.history (cleans g) known is.keeps.intervals_are);
      infos_are = subst (KeepsInfos after) (sym c.take_clean.ensures.infos)
          (c.in_ok-push.ensures.ok g after (c.last.ensures ∙ last) (infos-told log info pg is.history same) is.keeps.infos_are);
      reports_are = subst (KeepsReports after) (sym c.take_clean.ensures.reports)
          (reports-kept log (entry.Info info) pg is.history now.reports refl
          (reports-same log (entry.Info info) pg refl) is.keeps.reports_are);
      named_are = subst (KeepsNames after) (sym c.take_clean.ensures.named)
          (KeepsNames-info g after now.named c.add.new.self info (stood-told log info pg is.history same)
          (infos-new log info pg same) (reports-same log (entry.Info info) pg refl)
          (c.add.ensures.osds ∙ ap (with_item before info.member.osd) c.make_room_for.ensures.same) is.keeps.named_are);
      prior_is = c.take_clean.ensures.prior g after known is.keeps.intervals_are refl epochs
          (les-grows log (entry.Info info) pg is.history is.history) is.keeps.prior_is;
    })

pub returns-else-eq-clause-ok : goal.returns-else-eq-clause-ok
returns-else-eq-clause-ok c = λ log pg come is.
    let info = c.args.info.now in
    let differ : is_same_group info.pg pg ≡ false = subst (λ (q : PgId). is_same_group info.pg q ≡ false) is.keeps.pg_is (sym c.eq.ensures ∙ c.if-eq.false) in
    IsGroupOf-other log (entry.Info info) pg c.args.self.now _ is refl (infos-other log info pg differ) refl refl
    (infos-kept log (entry.Info info) pg is.history c.args.self.now.infos refl (infos-other log info pg differ) is.keeps.infos_are)
    (reports-kept log (entry.Info info) pg is.history c.args.self.now.reports refl (reports-same log (entry.Info info) pg refl) is.keeps.reports_are)
    (names-kept log (entry.Info info) pg is.history c.args.self.now.named (infos-other log info pg differ) (reports-same log (entry.Info info) pg refl) is.keeps.named_are)

pub returns-in_err-make_room_for-clause-err : goal.returns-in_err-make_room_for-clause-err
returns-in_err-make_room_for-clause-err c =
    same_after_error c.from_residual.result c.args.self.now _ refl refl (λ g kept. kept) (λ g kept. kept) c.make_room_for.ensures.same refl

pub returns-in_err-push-clause-err : goal.returns-in_err-push-clause-err
returns-in_err-push-clause-err c =
    same_after_error c.from_residual-in_err-push.result c.args.self.now _ refl refl c.in_err-push.ensures.err (λ g kept. kept) c.make_room_for.ensures.same refl
