use Rattle.std.proofs.Common.{◌≡◌, ℕ, List, [], ◌∷◌, ◌++◌, false, not, length, append-nil, ap, sym, ◌∙◌, subst, inl, inr, arith}
use Rattle.std.specs.List.{Contains, list_any}
use Rattle.std.proofs.lemmas.Bool.Decides.{nat_tests}
use Rattle.pgp_lists.proofs.Members.{contains-append, Contains-here}
use Rattle.pgp_group.proofs.Lists.{contains-push}
use Rattle.pgp_reasons.specs.Smallest.{holds, most_sets, smallest}
use Rattle.pgp_reasons.proofs.SpreadLemmas.{lacks-it, not-all, with-it, without}
use Rattle.pgp_reasons.proofs.WalkLemmas.{said-is}
use Rattle.pgp_reasons.proofs.spread.add_without.Goals as goal
use Rattle.pgp_reasons.proofs.spread.add_without.Goals.{then-len-eq-MOST_SETS-via-then-len-eq-MOST_SETS, then-len-eq-MOST_SETS-via-else-len-eq-MOST_SETS+then-one_lacks, then-is_enough+in_ok-leave_out+in_ok-push, else-is_enough}

pub returns-then-len-eq-MOST_SETS-clause-common : goal.returns-then-len-eq-MOST_SETS-clause-common
returns-then-len-eq-MOST_SETS-clause-common g c = λ below all. elim c.then-len-eq-MOST_SETS.branch [
  | then-len-eq-MOST_SETS-via-then-len-eq-MOST_SETS w ↦
      let full : length c.args.sets.now ≡ most_sets = grind (arith, nat_tests, c.len.ensures, w.if-len-eq-MOST_SETS.true) in
      absurd (omega (arith, below, full))
  | then-len-eq-MOST_SETS-via-else-len-eq-MOST_SETS+then-one_lacks w ↦
      absurd (not-all c.args.sets.now c.args.osd (ap (list_any (λ set. not (holds set c.args.osd))) (sym w.as_slice.ensures) ∙ sym w.one_lacks.ensures ∙ w.if-one_lacks.true) all)
]

pub returns-clause-some : goal.returns-clause-some
returns-clause-some g c = λ all. elim c.if-is_enough.branch [
  | then-is_enough+in_ok-leave_out+in_ok-push w ↦ λ set in'.
      elim (contains-push c.args.sets.now w.in_ok-leave_out.field-0 set (subst (λ (l : List (List ℕ)). Contains l set) (w.sets-is ∙ w.in_ok-push.ensures.ok) in')) [
        | inl old ↦ all set old
        | inr new ↦
            let enough = g.E.Enough.enough c.args.judge.now in
            let found : Contains (smallest enough (without c.args.osd c.args.among.now)) w.in_ok-leave_out.field-0 =
            subst (λ (l : List ℕ). Contains (smallest enough l) w.in_ok-leave_out.field-0) (w.as_slice-then-is_enough.ensures.value ∙ c.in_ok-others.ensures) w.in_ok-leave_out.ensures in
            subst (Contains (smallest enough c.args.among.now)) new (with-it enough c.args.osd c.args.among.now w.in_ok-leave_out.field-0 found)
      ]
  | else-is_enough w ↦ λ set in'. all set (subst (λ (l : List (List ℕ)). Contains l set) w.sets-is in')
]

pub returns-clause-common : goal.returns-clause-common
returns-clause-common g c = λ below all. elim c.if-is_enough.branch [
  | then-is_enough+in_ok-leave_out+in_ok-push w ↦
      let enough = g.E.Enough.enough c.args.judge.now in
      let found : Contains (smallest enough (without c.args.osd c.args.among.now)) w.in_ok-leave_out.field-0 =
      subst (λ (l : List ℕ). Contains (smallest enough l) w.in_ok-leave_out.field-0) (w.as_slice-then-is_enough.ensures.value ∙ c.in_ok-others.ensures) w.in_ok-leave_out.ensures in
      let there : Contains c.if-is_enough.sets w.in_ok-leave_out.field-0 =
      subst (λ (l : List (List ℕ)). Contains l w.in_ok-leave_out.field-0) (sym (w.sets-is ∙ w.in_ok-push.ensures.ok))
      (contains-append c.args.sets.now (w.in_ok-leave_out.field-0 ∷ []) w.in_ok-leave_out.field-0 (inr (Contains-here w.in_ok-leave_out.field-0 []))) in
      absurd (lacks-it enough c.args.osd c.args.among.now w.in_ok-leave_out.field-0 found (all w.in_ok-leave_out.field-0 there))
  | else-is_enough w ↦
      said-is (g.E.Enough.enough c.args.judge.now) (c.as_slice-2.result.now ++ []) (without c.args.osd c.args.among.now) c.is_enough.result false
      (append-nil c.as_slice-2.result.now ∙ c.as_slice-2.ensures.value ∙ c.in_ok-others.ensures) c.is_enough.ensures w.if-is_enough.false
]
