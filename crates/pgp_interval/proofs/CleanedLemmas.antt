-- The running intervals stay those of the history as an epoch becomes known in which the group was clean.
use Rattle.std.proofs.Common.{◌≡◌, ℕ, ◌+◌, ◌<◌, ◌≤◌, List, [], ◌∷◌, ◌++◌, Bool, true, false, All, map, length, get_or, ap, sym, ◌∙◌, arith}
use Rattle.std.proofs.lemmas.Bool.Decides.{nat_tests}
use Rattle.std.proofs.lemmas.List.Elements.{All-nil, All-cons, All-append}
use Rattle.pgp_ids.specs.declared.past.Past.{Past}
use Rattle.pgp_interval.specs.History.{History, last_place}
use Rattle.pgp_interval.specs.ReadWrite.{was_clean}
use Rattle.pgp_interval.specs.Runs.{past_intervals}
use Rattle.pgp_interval.specs.Raised.{raised}
use Rattle.pgp_interval.specs.InOrder.{AreInOrder, holds_epoch}
use Rattle.pgp_interval.specs.IntervalsOf.{Running, IsIntervalsOf}
use Rattle.pgp_interval.proofs.IntervalLemmas.{lie_end_to_end}
use Rattle.pgp_interval.proofs.CleanLemmas.{was_clean-append, past_intervals-more}
use Rattle.pgp_interval.proofs.RaiseLemmas.{LieBefore, LieBefore-current, none_raised}

module _ {C : Type 0} (enough : C → List ℕ → Bool) (by_place : C → Bool) (cleans : List ℕ) (h : History C) (running : Running C) (is : IsIntervalsOf enough by_place h cleans running) where
  lie_before : LieBefore h.first running.first running.past
  lie_before =
      rw (is.first_is, is.past_are)
      (LieBefore-current h h.first (past_intervals enough by_place cleans h) (lie_end_to_end enough by_place cleans h))

  pub in_order : AreInOrder running.past
  in_order = lie_before.order

  module _ (epoch : ℕ) (up_to : epoch ≤ running.last) where
    abbrev all_cleans : List ℕ
    all_cleans = cleans ++ epoch ∷ []

    all_within : All (λ clean. clean ≤ h.first + last_place h) all_cleans
    all_within =
        All-append (λ clean. clean ≤ h.first + last_place h) cleans (epoch ∷ []) is.within
        (All-cons (λ clean. clean ≤ h.first + last_place h) epoch [] (omega (arith, is.last_is)) (All-nil (λ clean. clean ≤ h.first + last_place h)))

    all_past : (past : List Past) → map (raised (enough running.code) (by_place running.code) (epoch ∷ [])) running.past ≡ past → past ≡ past_intervals enough by_place all_cleans h
    all_past past rises =
        sym rises ∙ ap (map (raised (enough running.code) (by_place running.code) (epoch ∷ []))) is.past_are
        ∙ ap (λ (code : C). map (raised (enough code) (by_place code) (epoch ∷ [])) (past_intervals enough by_place cleans h)) is.code_is
        ∙ sym (past_intervals-more enough by_place cleans (epoch ∷ []) h)

    -- an epoch of the current interval is remembered
    pub cleaned_current : running.first ≤ epoch → IsIntervalsOf enough by_place h all_cleans (record running { clean = true })
    cleaned_current opened =
        let before = lie_before.before in
        let others = λ (k : ℕ) (d : Past) (below : k < length running.past). let early : (get_or running.past k d).last < running.first = before k d below in let outside : holds_epoch epoch (get_or running.past k d) ≡ false = grind (arith, nat_tests) in outside in
        let held : was_clean (epoch ∷ []) running.first running.last ≡ true = grind (arith, nat_tests) in
        let now : was_clean all_cleans running.first running.last ≡ true = grind (arith, nat_tests, was_clean-append cleans (epoch ∷ []) running.first running.last, held) in
        record {
          code_is = is.code_is;
          past_are = all_past running.past (none_raised (enough running.code) (by_place running.code) epoch running.past others);
          first_is = is.first_is;
          last_is = is.last_is;
          current_is = is.current_is;
          clean_is = sym now;
          within = all_within;
        }

    -- an earlier one raises the flag of the past interval that holds it
    pub cleaned_past : epoch < running.first → (past : List Past) → map (raised (enough running.code) (by_place running.code) (epoch ∷ [])) running.past ≡ past → IsIntervalsOf enough by_place h all_cleans (record running { past = past })
    cleaned_past early past rises =
        let outside : was_clean (epoch ∷ []) running.first running.last ≡ false = grind (arith, nat_tests) in
        let now : was_clean all_cleans running.first running.last ≡ was_clean cleans running.first running.last = grind (arith, nat_tests, was_clean-append cleans (epoch ∷ []) running.first running.last, outside) in
        record {
          code_is = is.code_is;
          past_are = all_past past rises;
          first_is = is.first_is;
          last_is = is.last_is;
          current_is = is.current_is;
          clean_is = is.clean_is ∙ sym now;
          within = all_within;
        }
