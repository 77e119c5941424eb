use Rattle.std.specs.Prelude.{replicate}
use Rattle.std.proofs.lemmas.List.{length-replicate}
use Rattle.pgp_interval.proofs.GrownLemmas.{grown-stays}
use Rattle.pgp_group.proofs.Common.{◌∷◌, arith, refl, sym, subst, ◌∙◌, enough_of, is_by_place, AnyCode, History, IsIntervalsOf, incs_of, passed_over, primary_facts, cleans, group_with}
use Rattle.pgp_group.proofs.GroupLemmas.{IsGroupOf-inc, names-stay}
use Rattle.pgp_group.proofs.GrowthLemmas.{history-last, later_epoch}
use Rattle.pgp_group.proofs.HistoryLemmas.{history-current}
use Rattle.pgp_group.proofs.group.Group.stay.Goals as goal

pub returns-clause-next : goal.returns-clause-next
returns-clause-next c = λ log pg inc is fine at stays.
    let facts = primary_facts (incs_of log) is.history.current.acting_primary in
    let passed = passed_over (incs_of log) inc in
    IsGroupOf-inc log inc pg c.args.self.now _ is.history.current is fine (stays ∙ history-current (incs_of log) pg is.history is.history_is) refl refl refl refl
    (subst (λ (t : History AnyCode). IsIntervalsOf enough_of is_by_place t (cleans (group_with log pg is.history)) c.stay.new.self) (sym (grown-stays is.history passed facts))
    (c.stay.ensures.stays is.history (cleans (group_with log pg is.history)) (facts ∷ replicate passed facts) is.keeps.intervals_are
    (omega (arith, length-replicate passed facts, at, later_epoch (incs_of log) inc fine, is.keeps.intervals_are.last_is, history-last (incs_of log) pg is.history is.ascend is.history_is))))
    (names-stay log inc pg is.history passed facts c.args.self.now.named is.keeps.named_are)
