-- What the epochs in which a group was clean make of its past intervals.
use Rattle.std.proofs.Common.{◌≡◌, ℕ, ◌+◌, ◌<◌, ◌≤◌, List, [], ◌∷◌, ◌++◌, Bool, true, false, ◌&&◌, ◌||◌, map, filter, nat_le, Contains, refl, ap, sym, ◌∙◌, arith}
use Rattle.std.specs.List.{list_any}
use Rattle.std.proofs.lemmas.Bool.{cases_Bool}
use Rattle.std.proofs.lemmas.Bool.Decides.{nat_tests}
use Rattle.std.proofs.lemmas.List.Folds.{list_any-append}
use Rattle.std.proofs.lemmas.Simd.{map-map}
use Rattle.pgp_ids.specs.declared.history.EpochState.{EpochState}
use Rattle.pgp_ids.specs.declared.past.Past.{Past}
use Rattle.pgp_lists.proofs.Bools.{same_tests}
use Rattle.pgp_lists.proofs.Members.{map-agree, Contains-here, Contains-later, contains-any, any-contains}
use Rattle.pgp_interval.specs.History.{History, state_at}
use Rattle.pgp_interval.specs.ReadWrite.{can_write, is_recorded, was_clean}
use Rattle.pgp_interval.specs.Runs.{opening_of, past_ending, past_ends, past_intervals}
use Rattle.pgp_interval.specs.Raised.{raised}

-- ---- whether the group was clean in some epochs

pub was_clean-append : (cleans more : List ℕ) (first last : ℕ) → was_clean (cleans ++ more) first last ≡ (was_clean cleans first last || was_clean more first last)
was_clean-append cleans more first last = list_any-append (λ clean. nat_le first clean && nat_le clean last) cleans more

-- a later last epoch adds nothing, where none is after the earlier one
pub was_clean-later : (cleans : List ℕ) (first last to : ℕ) → ((clean : ℕ) → Contains cleans clean → clean ≤ last) → last ≤ to → was_clean cleans first to ≡ was_clean cleans first last
was_clean-later [] first last to within later = refl
was_clean-later (clean ∷ cleans) first last to within later =
    let here = within clean (Contains-here clean cleans) in
    grind (arith, nat_tests, was_clean-later cleans first last to (λ c in'. within c (Contains-later clean cleans c in')) later)

-- nor do epochs after all of them
pub was_clean-none : (cleans : List ℕ) (first last : ℕ) → ((clean : ℕ) → Contains cleans clean → clean < first) → was_clean cleans first last ≡ false
was_clean-none [] first last before = refl
was_clean-none (clean ∷ cleans) first last before =
    let here = before clean (Contains-here clean cleans) in
    grind (arith, nat_tests, was_clean-none cleans first last (λ c in'. before c (Contains-later clean cleans c in')))

-- epochs before `from` say nothing of later ones
was_clean-filter : (cleans : List ℕ) (from first last : ℕ) → from ≤ first → was_clean (filter (nat_le from) cleans) first last ≡ was_clean cleans first last
was_clean-filter [] from first last after = refl
was_clean-filter (clean ∷ cleans) from first last after =
    grind (arith, nat_tests, cases_Bool (nat_le from clean), was_clean-filter cleans from first last after)

any-more : {X : Type 0} (test : X → Bool) (xs ys : List X) → ((x : X) → Contains xs x → Contains ys x) → list_any test xs ≡ true → list_any test ys ≡ true
any-more test xs ys within any =
    let found = any-contains test xs any in
    contains-any test ys found.0 (within found.0 found.1.0) found.1.1

was_clean-same : (cleans others : List ℕ) (first last : ℕ) → ((clean : ℕ) → Contains cleans clean → Contains others clean) → ((clean : ℕ) → Contains others clean → Contains cleans clean) → was_clean cleans first last ≡ was_clean others first last
was_clean-same cleans others first last forth back =
    let test = λ (clean : ℕ). nat_le first clean && nat_le clean last in
    same_tests (was_clean cleans first last) (was_clean others first last) (any-more test cleans others forth) (any-more test others cleans back)

-- ---- past intervals with other cleans

flag-more : (can recorded before more : Bool) → (can && (recorded || (before || more))) ≡ ((can && (recorded || before)) || (can && more))
flag-more can recorded before more = grind (arith, nat_tests, cases_Bool can, cases_Bool recorded, cases_Bool before)

module _ {C : Type 0} (enough : C → List ℕ → Bool) (by_place : C → Bool) where
  abbrev raised_by : List ℕ → History C → Past → Past
  raised_by more h = raised (enough h.code) (by_place h.code) more

  past_ending-more : (cleans more : List ℕ) (h : History C) (last : ℕ) → past_ending enough by_place (cleans ++ more) h last ≡ raised_by more h (past_ending enough by_place cleans h last)
  past_ending-more cleans more h last =
      let first : ℕ = h.first + opening_of h last in
      let ended : EpochState = state_at h last in
      let can = can_write (enough h.code) (by_place h.code) ended.members in
      let recorded = is_recorded ended.facts first in
      let flag : (can && (recorded || was_clean (cleans ++ more) first (h.first + last))) ≡ ((can && (recorded || was_clean cleans first (h.first + last))) || (can && was_clean more first (h.first + last))) = ap (λ b. can && (recorded || b)) (was_clean-append cleans more first (h.first + last)) ∙ flag-more can recorded (was_clean cleans first (h.first + last)) (was_clean more first (h.first + last)) in
      ap (λ (b : Bool). let p : Past = record { first = first; last = h.first + last; members = ended.members; rw = b } in p) flag

  -- more cleans raise flags, and change nothing else
  pub past_intervals-more : (cleans more : List ℕ) (h : History C) → past_intervals enough by_place (cleans ++ more) h ≡ map (raised (enough h.code) (by_place h.code) more) (past_intervals enough by_place cleans h)
  past_intervals-more cleans more h =
      map-agree (past_ending enough by_place (cleans ++ more) h) (λ last. raised_by more h (past_ending enough by_place cleans h last)) (past_ends h) (λ last in'. past_ending-more cleans more h last)
      ∙ sym (map-map (raised_by more h) (past_ending enough by_place cleans h) (past_ends h))

  -- cleans that say the same of each interval
  past_intervals-agree : (cleans others : List ℕ) (h : History C) → ((first last : ℕ) → h.first ≤ first → was_clean cleans first last ≡ was_clean others first last) → past_intervals enough by_place cleans h ≡ past_intervals enough by_place others h
  past_intervals-agree cleans others h same =
      map-agree (past_ending enough by_place cleans h) (past_ending enough by_place others h) (past_ends h) (λ last in'.
      let first : ℕ = h.first + opening_of h last in
      let ended : EpochState = state_at h last in
      ap (λ (b : Bool). let p : Past = record { first = first; last = h.first + last; members = ended.members; rw = can_write (enough h.code) (by_place h.code) ended.members && (is_recorded ended.facts first || b) } in p)
      (same first (h.first + last) (omega arith)))

  -- lists of the same cleans
  pub past_intervals-same : (cleans others : List ℕ) (h : History C) → ((clean : ℕ) → Contains cleans clean → Contains others clean) → ((clean : ℕ) → Contains others clean → Contains cleans clean) → past_intervals enough by_place cleans h ≡ past_intervals enough by_place others h
  past_intervals-same cleans others h forth back =
      past_intervals-agree cleans others h (λ first last after. was_clean-same cleans others first last forth back)

  -- cleans before the first epoch
  pub past_intervals-early : (cleans : List ℕ) (h : History C) → past_intervals enough by_place (filter (nat_le h.first) cleans) h ≡ past_intervals enough by_place cleans h
  past_intervals-early cleans h =
      past_intervals-agree (filter (nat_le h.first) cleans) cleans h (λ first last after. was_clean-filter cleans h.first first last after)

  pub past_intervals-zero : (cleans : List ℕ) (h : History C) → 1 ≤ h.first → past_intervals enough by_place (0 ∷ cleans) h ≡ past_intervals enough by_place cleans h
  past_intervals-zero cleans h later =
      past_intervals-agree (0 ∷ cleans) cleans h (λ first last after. grind (arith, nat_tests))

pub ruleset clean_laws = (past_intervals-more, past_intervals-same, past_intervals-early, past_intervals-zero)
