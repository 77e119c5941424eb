-- The intervals by their definition are the maximal runs, and lie end to end.
use Rattle.std.proofs.Common.{◌≡◌, ◌≢◌, ℕ, zero, suc, ◌+◌, ◌-◌, ◌<◌, ◌≤◌, List, Bool, true, false, not, map, filter, refl, ap, sym, ◌∙◌, subst, arith, add-one, inl, inr, Contains}
use Rattle.std.specs.List.{range_with_len}
use Rattle.std.proofs.lemmas.Bool.{cases_Bool, cases_lt, true≢false, true_from_ne_false, not-true, not-false}
use Rattle.std.proofs.lemmas.List.FromFn.{length-range_with_len, get_or-range_with_len}
use Rattle.std.proofs.Math.ListN.{get_or-eq_default}
use Rattle.pgp_ids.specs.declared.history.EpochState.{EpochState}
use Rattle.pgp_ids.specs.declared.past.Past.{Past}
use Rattle.pgp_lists.proofs.Ranges.{range-contains}
use Rattle.pgp_lists.proofs.Members.{All-members, map-contains, contains-map, filter-contains, contains-filter}
use Rattle.pgp_interval.specs.History.{History, last_place, current_state, state_at, members_at}
use Rattle.pgp_interval.specs.Runs.{ends_at, opens_at, opening_of, past_ending, past_ends, past_intervals}
use Rattle.pgp_interval.specs.Interval.{IsInterval, TellsOf, EachIsOver, HasEachOver, next_members, LieEndToEnd}
use Rattle.pgp_interval.proofs.Same.{is_same-eq, eq-is_same}
use Rattle.pgp_interval.proofs.Openings.{opening_of-opens, opening_of-stays, opening_of-le, opens_at-next}

-- ---- where memberships differ

module _ {C : Type 0} (h : History C) where
  stays-same : (place : ℕ) → ends_at h place ≡ false → members_at h place ≡ members_at h (place + 1)
  stays-same place stays = is_same-eq _ _ (not-false _ stays)

  ends-differ : (place : ℕ) → ends_at h place ≡ true → members_at h place ≢ members_at h (place + 1)
  ends-differ place ends same = true≢false (sym (eq-is_same _ _ same) ∙ not-true _ ends)

  pub same-stays : (place : ℕ) → members_at h place ≡ members_at h (place + 1) → ends_at h place ≡ false
  same-stays place same = ap not (eq-is_same _ _ same)

  pub differ-ends : (place : ℕ) → members_at h place ≢ members_at h (place + 1) → ends_at h place ≡ true
  differ-ends place differ = true_from_ne_false (ends_at h place) (λ stays. differ (stays-same place stays))

  -- ---- the runs are the intervals

  opens_at-opening_of : (place : ℕ) → opens_at h (opening_of h place) ≡ true
  opens_at-opening_of zero = refl
  opens_at-opening_of (suc place) =
      grind (arith, cases_Bool (ends_at h place), opening_of-opens h (suc place), opening_of-stays h place, opens_at-opening_of place)

  -- from its opening on an interval has one membership
  same_from_opening : (last place : ℕ) → opening_of h last ≤ place → place ≤ last → members_at h place ≡ members_at h last
  same_from_opening zero place from to = ap (members_at h) (omega arith)
  same_from_opening (suc last) place from to =
      grind (arith, cases_Bool (ends_at h last), opening_of-opens h (suc last), opening_of-stays h last, same_from_opening last place, stays-same last, add-one last)

  differs_before : (first : ℕ) → opens_at h first ≡ true → (place : ℕ) → place + 1 ≡ first → members_at h place ≢ members_at h first
  differs_before first opens place next same =
      ends-differ place (ap (opens_at h) (sym (add-one place) ∙ next) ∙ opens) (same ∙ ap (members_at h) (sym next))

  pub IsInterval-opening_of : (last : ℕ) → last ≤ last_place h → (last < last_place h → ends_at h last ≡ true) → IsInterval h (opening_of h last) last
  IsInterval-opening_of last within ends =
      let before = differs_before (opening_of h last) (opens_at-opening_of last) in
      let after = λ (over : last < last_place h) (same : members_at h (last + 1) ≡ members_at h last). ends-differ last (ends over) (sym same) in
      search (opening_of-le h last, same_from_opening last, before, after)

  -- of two runs with one end neither opens later
  opens_no_later : (a b last : ℕ) → IsInterval h a last → IsInterval h b last → b ≤ a
  opens_no_later a b last one other =
      grind (arith, cases_lt a b, other.ordered, other.before (b - 1), one.equal (b - 1), one.equal b)

  pub opening_of-interval : (first last : ℕ) → IsInterval h first last → opening_of h last ≡ first
  opening_of-interval first last run =
      let own = IsInterval-opening_of last run.within (λ over. differ-ends last (λ same. run.after over (sym same))) in
      omega (arith, opens_no_later first (opening_of h last) last run own, opens_no_later (opening_of h last) first last own run)

-- ---- the past intervals are those that are over

pub range-below : (n k : ℕ) → Contains (range_with_len 0 n) k → k < n
range-below n k in' =
    let at : in'.0 < n = omega (arith, in'.1, length-range_with_len 0 n) in
    omega (arith, at, in'.2, get_or-range_with_len 0 n in'.0 k at)

pub members_at-last_place : {C : Type 0} (h : History C) (place : ℕ) → place ≡ last_place h → members_at h place ≡ h.current
members_at-last_place h place here =
    let at : state_at h place ≡ current_state h = get_or-eq_default h.lived (current_state h) (omega arith) in
    ap (λ (s : EpochState). s.members) at

module _ {C : Type 0} (enough : C → List ℕ → Bool) (by_place : C → Bool) (cleans : List ℕ) (h : History C) where
  abbrev ending : ℕ → Past
  ending = past_ending enough by_place cleans h

  TellsOf-past_ending : (last : ℕ) → last < last_place h → ends_at h last ≡ true → TellsOf enough by_place cleans h (ending last) (opening_of h last) last
  TellsOf-past_ending last over ends =
      let interval = IsInterval-opening_of h last (omega arith) (λ _. ends) in
      search

  pub EachIsOver-past_intervals : EachIsOver enough by_place cleans h (past_intervals enough by_place cleans h)
  EachIsOver-past_intervals =
      All-members (λ p. (first : ℕ) × ((last : ℕ) × TellsOf enough by_place cleans h p first last)) (past_intervals enough by_place cleans h) (λ p in'.
      let made = map-contains ending (past_ends h) p in' in
      let kept = filter-contains (ends_at h) (range_with_len 0 (last_place h)) made.0 made.1.0 in
      let tells = TellsOf-past_ending made.0 (range-below (last_place h) made.0 kept.0) kept.1 in
      (opening_of h made.0, (made.0, subst (λ q. TellsOf enough by_place cleans h q (opening_of h made.0) made.0) made.1.1 tells)))

  pub HasEachOver-past_intervals : HasEachOver enough by_place cleans h (past_intervals enough by_place cleans h)
  HasEachOver-past_intervals first last run over =
      let ends : ends_at h last ≡ true = differ-ends h last (λ same. run.after over (sym same)) in
      let there = contains-filter (ends_at h) (range_with_len 0 (last_place h)) last (range-contains (last_place h) last over) ends in (
        ending last,
        contains-map ending (past_ends h) last there,
        subst (λ a. TellsOf enough by_place cleans h (ending last) a last) (opening_of-interval h first last run) (TellsOf-past_ending last over ends),
      )

  -- ---- the intervals lie end to end

  -- the past intervals that end at one of n places
  abbrev past_from : ℕ → ℕ → List Past
  past_from place n = map ending (filter (ends_at h) (range_with_len place n))

  next_members-range : (place n : ℕ) → place + n ≡ last_place h → next_members h (past_from place n) ≡ members_at h place
  next_members-range place zero to = sym (members_at-last_place h place (omega arith))
  next_members-range place (suc n) to =
      grind (arith, cases_Bool (ends_at h place), next_members-range (place + 1) n, stays-same h place)

  LieEndToEnd-range : (place n : ℕ) → place + n ≡ last_place h → LieEndToEnd h (h.first + opening_of h place) (past_from place n)
  LieEndToEnd-range place zero to = ap (λ k. h.first + opening_of h k) (omega arith)
  LieEndToEnd-range place (suc n) to =
      let rest : LieEndToEnd h (h.first + opening_of h (place + 1)) (past_from (place + 1) n) = LieEndToEnd-range (place + 1) n (omega arith) in
      elim (cases_Bool (ends_at h place)) [
        | inl ends ↦
            let next : opening_of h (place + 1) ≡ place + 1 = opening_of-opens h (place + 1) (opens_at-next h place ∙ ends) in
            let from : h.first + opening_of h (place + 1) ≡ h.first + place + 1 = omega arith in
            let members = next_members-range (place + 1) n (omega arith) in
            rw ends (
              refl,
              omega (arith, opening_of-le h place),
              (λ same. ends-differ h place ends (same ∙ members)),
              subst (λ k. LieEndToEnd h k (past_from (place + 1) n)) from rest,
            )
        | inr stays ↦
            let from : opening_of h (place + 1) ≡ opening_of h place = ap (opening_of h) (add-one place) ∙ opening_of-stays h place stays in
            rw stays (subst (λ k. LieEndToEnd h (h.first + k) (past_from (place + 1) n)) from rest)
      ]

  pub lie_end_to_end : LieEndToEnd h h.first (past_intervals enough by_place cleans h)
  lie_end_to_end =
      let from : h.first + opening_of h 0 ≡ h.first = omega arith in
      subst (λ k. LieEndToEnd h k (past_intervals enough by_place cleans h)) from (LieEndToEnd-range 0 (last_place h) (omega arith))

pub ruleset past_laws = (EachIsOver-past_intervals, HasEachOver-past_intervals)
