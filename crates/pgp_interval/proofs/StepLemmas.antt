-- What a step does to the intervals: the past ones stay, and the current one goes on or ends.
use Rattle.std.proofs.Common.{◌≡◌, ◌≢◌, ℕ, zero, suc, ◌+◌, ◌<◌, ◌≤◌, List, [], ◌∷◌, ◌++◌, Bool, true, false, not, map, filter, fold, max, refl, ap, sym, ◌∙◌, arith, add-one}
use Rattle.std.specs.List.{range_with_len}
use Rattle.std.proofs.lemmas.Bool.{cases_lt}
use Rattle.std.proofs.lemmas.List.{get_or_append_left, get_or_default, get_or_push, length_push}
use Rattle.pgp_ids.specs.declared.history.EpochState.{EpochState}
use Rattle.pgp_ids.specs.declared.history.PrimaryFacts.{PrimaryFacts}
use Rattle.pgp_ids.specs.declared.membership.Membership.{Membership}
use Rattle.pgp_interval.specs.SameMembers.{is_same}
use Rattle.pgp_interval.specs.History.{History, stepped, last_place, current_state, state_at, members_at}
use Rattle.pgp_interval.specs.Runs.{ends_at, opens_at, opening_of, past_ending, past_ends, past_intervals, current_first, ending_at}
use Rattle.pgp_interval.proofs.Openings.{opening_of-opens, opening_of-stays, opens_at-next}
use Rattle.pgp_lists.proofs.Members.{filter-agree, filter-contains, map-agree}
use Rattle.pgp_lists.proofs.Ranges.{map_filter_range-passes, map_filter_range-fails}
use Rattle.pgp_interval.proofs.IntervalLemmas.{range-below, members_at-last_place, same-stays, differ-ends}

-- the epoch that was current, with its facts
abbrev ended_state : {C : Type 0} → History C → PrimaryFacts → EpochState
ended_state h facts = record { members = h.current; facts = facts }

module _ {C : Type 0} (h : History C) (members : Membership) (facts : PrimaryFacts) where
  abbrev after : History C
  after = stepped h members facts

  -- ---- the epochs before the step stay

  state_at-stepped : (place : ℕ) → place < last_place h → state_at after place ≡ state_at h place
  state_at-stepped place before =
      get_or_append_left h.lived _ _ place before ∙ get_or_default h.lived place (current_state after) (current_state h) before

  state_at-ended : state_at after (last_place h) ≡ ended_state h facts
  state_at-ended = get_or_push h.lived (ended_state h facts) _ (last_place h) refl

  members_at-stepped : (place : ℕ) → place ≤ last_place h → members_at after place ≡ members_at h place
  members_at-stepped place within =
      grind (arith, cases_lt place (last_place h), state_at-stepped place, state_at-ended, members_at-last_place h place)

  members_at-next : members_at after (last_place h + 1) ≡ members
  members_at-next = members_at-last_place after (last_place h + 1) (sym (length_push h.lived _))

  ends_at-stepped : (place : ℕ) → place < last_place h → ends_at after place ≡ ends_at h place
  ends_at-stepped place before =
      λ i. not (is_same (members_at-stepped place (omega arith) i) (members_at-stepped (place + 1) (omega arith) i))

  opens_at-stepped : (place : ℕ) → place ≤ last_place h → opens_at after place ≡ opens_at h place
  opens_at-stepped zero within = refl
  opens_at-stepped (suc place) within = ends_at-stepped place (omega arith)

  opening_of-stepped : (place : ℕ) → place ≤ last_place h → opening_of after place ≡ opening_of h place
  opening_of-stepped place within =
      ap (fold max 0) (filter-agree (opens_at after) (opens_at h) (range_with_len 0 (place + 1))
      (λ k in'. opens_at-stepped k (omega (arith, range-below (place + 1) k in'))))

  -- ---- the past intervals

  module _ (enough : C → List ℕ → Bool) (by_place : C → Bool) (cleans : List ℕ) where
    past-stepped : map (past_ending enough by_place cleans after) (filter (ends_at after) (range_with_len 0 (last_place h))) ≡ past_intervals enough by_place cleans h
    past-stepped =
        let below = range-below (last_place h) in
        ap (map (past_ending enough by_place cleans after))
        (filter-agree (ends_at after) (ends_at h) (range_with_len 0 (last_place h)) (λ k in'. ends_at-stepped k (below k in')))
        ∙ map-agree (past_ending enough by_place cleans after) (past_ending enough by_place cleans h) (past_ends h) (λ k in'.
        let before : k < last_place h = below k ((filter-contains (ends_at h) (range_with_len 0 (last_place h)) k in').0) in
        grind (arith, before, opening_of-stepped k, state_at-stepped k))

  ends : members ≢ h.current → ends_at after (last_place h) ≡ true
  ends differ =
      differ-ends after (last_place h)
      (λ same. differ (sym members_at-next ∙ sym same ∙ members_at-stepped (last_place h) (omega arith) ∙ members_at-last_place h (last_place h) refl))

-- ---- a step to the same membership

goes_on : {C : Type 0} (h : History C) (facts : PrimaryFacts) → ends_at (stepped h h.current facts) (last_place h) ≡ false
goes_on h facts =
    let after : History _ = stepped h h.current facts in
    grind (arith, same-stays after (last_place h), members_at-stepped h h.current facts (last_place h), members_at-last_place h (last_place h), members_at-next h h.current facts)

pub past_intervals-continues : {C : Type 0} (enough : C → List ℕ → Bool) (by_place : C → Bool) (cleans : List ℕ) (h : History C) (facts : PrimaryFacts) → past_intervals enough by_place cleans (stepped h h.current facts) ≡ past_intervals enough by_place cleans h
past_intervals-continues enough by_place cleans h facts =
    let after : History _ = stepped h h.current facts in
    let places = length_push h.lived (ended_state h facts) in
    let stays = map_filter_range-fails (past_ending enough by_place cleans after) (ends_at after) (last_place h) (goes_on h facts) in
    grind (arith, places, stays, past-stepped h h.current facts enough by_place cleans)

pub current_first-continues : {C : Type 0} (h : History C) (facts : PrimaryFacts) → current_first (stepped h h.current facts) ≡ current_first h
current_first-continues h facts =
    let after : History _ = stepped h h.current facts in
    let places = length_push h.lived (ended_state h facts) in
    let stays = opening_of-stays after (last_place h) (goes_on h facts) in
    grind (arith, places, add-one (last_place h), stays, opening_of-stepped h h.current facts (last_place h))

-- ---- a step to another membership

pub past_intervals-ends : {C : Type 0} (enough : C → List ℕ → Bool) (by_place : C → Bool) (cleans : List ℕ) (h : History C) (members : Membership) (facts : PrimaryFacts) → members ≢ h.current → past_intervals enough by_place cleans (stepped h members facts) ≡ past_intervals enough by_place cleans h ++ ending_at enough by_place cleans h (h.first + last_place h) facts ∷ []
past_intervals-ends enough by_place cleans h members facts differ =
    let after : History _ = stepped h members facts in
    let places = length_push h.lived (ended_state h facts) in
    let more = map_filter_range-passes (past_ending enough by_place cleans after) (ends_at after) (last_place h) (ends h members facts differ) in
    let past = past-stepped h members facts enough by_place cleans in
    grind (arith, places, more, past, opening_of-stepped h members facts (last_place h), state_at-ended h members facts)

pub current_first-ends : {C : Type 0} (h : History C) (members : Membership) (facts : PrimaryFacts) → members ≢ h.current → current_first (stepped h members facts) ≡ h.first + last_place h + 1
current_first-ends h members facts differ =
    let after : History _ = stepped h members facts in
    grind (arith, length_push h.lived (ended_state h facts), opens_at-next after (last_place h), ends h members facts differ, opening_of-opens after (last_place h + 1))
