-- What is said of the reasons of a group is the same by a log and by the same log compacted.
use Rattle.pgp_compact.proofs.Common.{AnyCode, Bool, Contains, Entry, GroupLog, History, Info, List, Past, PgId, Some, Span, [], ap, are_checked, arith, can_write, ends_at, enough_of, epoch, false, filter, filter-contains, fold, group_history, heard, incs, incs_of, infos, inr, is_by_place, is_clean_from, is_recorded, les, list_any, map, map-agree, map-contains, max, nat_le, nat_tests, not, option_map_or, past, past_ending, past_ends, prior, refl, state_at, subst, sym, true, true≢false, wants_clean, was_clean, ℕ, ◌&&◌, ◌++◌, ◌||◌, ◌∙◌, ◌∷◌, ◌≡◌, ◌≤◌}
use Rattle.pgp_compact.proofs.GoneOnLemmas.{IsSent, NeverCountsAgain, best-alike, clean-alike, heard-same, incs-alike, les-alike, less, numbers-alike, past-alike, prior-alike, whole}
use Rattle.pgp_compact.proofs.IntervalLemmas.{span_ending}
use Rattle.pgp_compact.proofs.PartLemmas.{clean_of}
use Rattle.std.specs.List.{last_or}
use Rattle.std.proofs.Common.{Option, None, inl, is_some, option_map}
use Rattle.std.proofs.lemmas.Bool.{cases_Bool}
use Rattle.pgp_lists.proofs.Members.{filter-agree}
use Rattle.pgp_map.specs.Devices.{lost_at}
use Rattle.pgp_prior.specs.Blocks.{blocks, matters}
use Rattle.pgp_prior.specs.Prior.{is_group_down}
use Rattle.pgp_prior.specs.declared.prior_set.Prior.{Prior}
use Rattle.pgp_reasons.specs.Blocking.{blocking_by, clean_of as clean_interval, greatest, is_in_interval, last_within, was_clean_in}
use Rattle.pgp_reasons.specs.Gaps.{runs_lacked}
use Rattle.pgp_reasons.specs.Copies.{copies_of}
use Rattle.pgp_reasons.specs.Fates.{interval_now}
use Rattle.pgp_reasons.specs.GroupWays.{brings_back}
use Rattle.pgp_reasons.specs.Price.{price, price_by}
use Rattle.pgp_reasons.specs.Reasons.{AreReasons, blocking, clean, copies_heard, gaps, short}
use Rattle.pgp_reasons.specs.Short.{short_of}
use Rattle.pgp_reasons.specs.Smallest.{AreWays}
use Rattle.pgp_reasons.specs.Ways.{status_after}
use Rattle.pgp_reasons.specs.declared.reasons.Reasons.{Reasons}
use Rattle.pgp_sets.specs.Status.{status}
use Rattle.pgp_sets.specs.declared.status.Status.{Status}

-- ---- the last clean epoch of an interval

reaches-greatest : (n epoch : ℕ) (epochs : List ℕ) → nat_le n (fold max epoch epochs) ≡ (nat_le n epoch || list_any (nat_le n) epochs)
reaches-greatest n epoch [] = grind (arith, nat_tests)
reaches-greatest n epoch (other ∷ epochs) = grind (arith, nat_tests, reaches-greatest n (max epoch other) epochs)

-- two lists of which each reaches what the other does have the same greatest element
greatest-same : (xs ys : List ℕ) → ((n : ℕ) → list_any (nat_le n) xs ≡ list_any (nat_le n) ys) → greatest xs ≡ greatest ys
greatest-same [] [] same = refl
greatest-same [] (y ∷ ys) same = absurd (true≢false (sym (grind (arith, nat_tests, same 0))))
greatest-same (x ∷ xs) [] same = absurd (true≢false (grind (arith, nat_tests, same 0)))
greatest-same (x ∷ xs) (y ∷ ys) same =
    let a : ℕ = fold max x xs in
    let b : ℕ = fold max y ys in
    let up : a ≤ b = grind (arith, nat_tests, same a, reaches-greatest a x xs, reaches-greatest a y ys) in
    let down : b ≤ a = grind (arith, nat_tests, same b, reaches-greatest b x xs, reaches-greatest b y ys) in
    let one : a ≡ b = omega (arith, up, down) in
    ap Some one

within-are : (interval : Past) (span : Span) → interval.first ≡ span.first → interval.last ≡ span.last → (n : ℕ) (told : List Info)
    → list_any (nat_le n) (filter (is_in_interval interval) (map clean_of told)) ≡ list_any (is_clean_from span n) told
within-are interval span first last n [] = refl
within-are interval span first last n (info ∷ told) = grind (arith, nat_tests, within-are interval span first last n told)

-- where the flag is raised and the group didn't begin to serve since, clean epochs can matter
flag-wants : (can recorded clean since : Bool) → (can && (recorded || clean)) ≡ true → since ≡ true → (can && (not (can && (recorded || false)) || since)) ≡ true
flag-wants can recorded clean since flag is = grind (arith, nat_tests)

-- ---- all that is said

reasons-by : (a b : GroupLog) → heard a ≡ heard b → blocking a ≡ blocking b → prior a ≡ prior b → brings_back a ≡ brings_back b → clean a ≡ clean b → copies_heard a ≡ copies_heard b → short a ≡ short b → gaps a ≡ gaps b
    → (reasons : Reasons) → AreReasons a reasons → AreReasons b reasons
reasons-by a b heard-is blocking-is prior-is back-is clean-is copies-is short-is gaps-is reasons are = record {
  heard_is = are.heard_is ∙ heard-is;
  blocking_is = are.blocking_is ∙ blocking-is;
  ways_are = record {
    down = λ down. subst (λ (P : Type 0). P) (λ i. AreWays (back-is i) (prior-is i).blocked_by reasons.ways)
        (are.ways_are.down (ap (λ (p : Prior). p.down) prior-is ∙ down));
    up = λ up. are.ways_are.up (ap (λ (p : Prior). p.down) prior-is ∙ up);
  };
  clean_is = are.clean_is ∙ clean-is;
  copies_is = are.copies_is ∙ copies-is;
  short_is = are.short_is ∙ short-is;
  gaps_is = are.gaps_is ∙ gaps-is;
}

module _ (never : NeverCountsAgain) (log more : List Entry) (pg : PgId) (after : History AnyCode) (checked : are_checked (incs_of (log ++ more)) ≡ true)
    (then' : group_history (incs_of (log ++ more)) pg ≡ Some after) (sent : IsSent log) where
  abbrev old : GroupLog
  old = whole never log more pg after checked then' sent

  abbrev new : GroupLog
  new = less never log more pg after checked then' sent

  same-incs : incs old ≡ incs new
  same-incs = sym (incs-alike never log more pg after checked then' sent)

  same-les : les old ≡ les new
  same-les = les-alike never log more pg after checked then' sent

  same-past : past old ≡ past new
  same-past = past-alike never log more pg after checked then' sent

  same-prior : prior old ≡ prior new
  same-prior = prior-alike never log more pg after checked then' sent

  same-back : brings_back old ≡ brings_back new
  same-back = λ i osds. not (is_group_down (enough_of after.code) (is_by_place after.code) (status_after osds [] (status (same-incs i))) (same-les i) (same-past i))

  same-copies : copies_heard old ≡ copies_heard new
  same-copies = λ i. copies_of after.code (best-alike never log more pg after checked then' sent i) (heard-same never log more pg after checked then' sent i)

  same-short : short old ≡ short new
  same-short = λ i. short_of after.code (status (same-incs i)) (same-les i) (same-past i) after.current.acting

  same-gaps : gaps old ≡ gaps new
  same-gaps = λ i. option_map_or (λ info. runs_lacked (λ v. numbers-alike never log more pg after checked then' sent info.member v i) info.log_tail.v info.last_update.v)
      (best-alike never log more pg after checked then' sent i) []

  abbrev cleans_of : GroupLog → List ℕ
  cleans_of g = map clean_of (infos g)

  -- of an interval that the group has to reckon with
  same-within : (p : Past) → Contains (past old) p → matters (les old) p ≡ true → last_within p (cleans_of old) ≡ last_within p (cleans_of new)
  same-within p there matters' =
      let found = map-contains (past_ending enough_of is_by_place (cleans_of old) after) (past_ends after) p there in
      let last : ℕ = found.0 in
      let span : Span = span_ending after last in
      let ends = (filter-contains (ends_at after) _ last found.1.0).1 in
      let first-is : p.first ≡ span.first = ap (λ (q : Past). q.first) (sym found.1.1) in
      let last-is : p.last ≡ span.last = ap (λ (q : Past). q.last) (sym found.1.1) in
      let raised : p.rw ≡ true = grind (arith, nat_tests) in
      let since : nat_le (les old) p.last ≡ true = grind (arith, nat_tests) in
      let flag = ap (λ (q : Past). q.rw) found.1.1 ∙ raised in
      let wants : wants_clean after.code (les old) (past_ending enough_of is_by_place [] after last) ≡ true =
      flag-wants (can_write (enough_of after.code) (is_by_place after.code) (state_at after last).members) (is_recorded (state_at after last).facts span.first)
      (was_clean (cleans_of old) span.first span.last) (nat_le (les old) span.last) flag (ap (nat_le (les old)) (sym last-is) ∙ since) in
      greatest-same (filter (is_in_interval p) (cleans_of old)) (filter (is_in_interval p) (cleans_of new))
      (λ n. within-are p span first-is last-is n (infos old) ∙ clean-alike never log more pg after checked then' sent last n (inr (ends, wants)) ∙ sym (within-are p span first-is last-is n (infos new)))

  same-blocking : blocking old ≡ blocking new
  same-blocking =
      let st : ℕ → ℕ → Status = status (incs old) in
      let lost : ℕ → ℕ = lost_at (incs old) in
      let blocks' : Past → Bool = blocks (enough_of after.code) (is_by_place after.code) st (les old) in
      map-agree (blocking_by after.code st lost (cleans_of old)) (blocking_by after.code st lost (cleans_of new)) (filter blocks' (past old))
      (λ p there.
      let kept = filter-contains blocks' (past old) p there in
      let clean' = same-within p kept.0 (grind (arith, nat_tests)) in
      λ i. record (blocking_by after.code st lost (cleans_of old) p) { clean = clean' i })
      ∙ (λ i. map (blocking_by after.code (status (same-incs i)) (lost_at (same-incs i)) (cleans_of new))
      (filter (blocks (enough_of after.code) (is_by_place after.code) (status (same-incs i)) (same-les i)) (same-past i)))

  -- where it matters, it was clean in it by both
  same-clean_in : (p : Past) → Contains (past old) p → was_clean_in (cleans_of old) (les old) p ≡ was_clean_in (cleans_of new) (les old) p
  same-clean_in p there = elim (cases_Bool (matters (les old) p)) [
    | inl does ↦ ap (λ (last : Option ℕ). matters (les old) p && is_some last) (same-within p there does)
    | inr not' ↦ rw not' refl
  ]

  same-clean : clean old ≡ clean new
  same-clean =
      (λ i. option_map (interval_now after.code (status (incs old)) (lost_at (incs old)))
      (last_or None (filter-agree (was_clean_in (cleans_of old) (les old)) (was_clean_in (cleans_of new) (les old)) (past old) same-clean_in i)))
      ∙ (λ i. clean_interval after.code (status (same-incs i)) (lost_at (same-incs i)) (cleans_of new) (same-les i) (same-past i))

  pub same-reasons : (reasons : Reasons) → AreReasons old reasons → AreReasons new reasons
  same-reasons =
      reasons-by old new (heard-same never log more pg after checked then' sent) same-blocking same-prior same-back same-clean same-copies same-short same-gaps

  pub reasons-same : (reasons : Reasons) → AreReasons new reasons → AreReasons old reasons
  reasons-same =
      reasons-by new old (sym (heard-same never log more pg after checked then' sent)) (sym same-blocking) (sym same-prior) (sym same-back) (sym same-clean) (sym same-copies) (sym same-short) (sym same-gaps)

  pub same-price : (starts losses : List ℕ) → price starts losses old ≡ price starts losses new
  same-price starts losses = λ i.
      price_by after.code (status (same-incs i)) (status_after starts losses (status (same-incs i))) (lost_at (same-incs i)) (same-les i) (same-past i)
