-- How the current interval moves with each incremental: it goes on, or it ends and the next one opens.
use Rattle.pgp_group.proofs.Common.{◌≡◌, ◌≢◌, ◌⊎◌, ℕ, ◌+◌, ◌-◌, ◌≤◌, List, [], ◌∷◌, ◌++◌, Some, true, refl, ap, sym, ◌∙◌, subst, inl, inr, arith, cases_Bool, true≢false, same_Some, enough_of, is_by_place, AnyCode, PrimaryFacts, Incremental, Membership, Past, PgId, History, last_place, grown, current_first, ending_at, past_intervals, is_same, is_same-eq, eq-is_same, some_is, are_checked, is_faultless, epoch, then_with, EpochsAscend, grown_with, passed_over, primary_facts, group_history, taken-along, taken-more, current_first-goes_on, current_first-over, past_intervals-goes_on, past_intervals-over, front-checked, last-checked}
use Rattle.pgp_interval.proofs.Openings.{opening_of-le}
use Rattle.pgp_group.proofs.GrowthLemmas.{epochs_ascend, has_group-grows, history-grows, history-last, later_epoch}
use Rattle.pgp_group.proofs.ViewLemmas.{history_there}

-- the past intervals by the code of the pool, where the group was clean in these epochs
abbrev pub past_of : List ℕ → History AnyCode → List Past
past_of cleans h = past_intervals enough_of is_by_place cleans h

-- the current interval goes on
pub record GoesOn (h after : History AnyCode) : Type 0 where
  pub current : after.current ≡ h.current
  pub first : current_first after ≡ current_first h
  pub past : (cleans : List ℕ) → past_of cleans after ≡ past_of cleans h

-- or it ends with these facts, and the next one opens with this epoch
pub record Ends (epoch : ℕ) (facts : PrimaryFacts) (h after : History AnyCode) : Type 0 where
  pub moved : after.current ≢ h.current
  pub first : current_first after ≡ epoch
  pub past : (cleans : List ℕ) → past_of cleans after ≡ past_of cleans h ++ ending_at enough_of is_by_place cleans h (epoch - 1) facts ∷ []

pub step-moves : (h : History AnyCode) (passed : ℕ) (members : Membership) (facts : PrimaryFacts) → GoesOn h (grown h passed members facts) ⊎ Ends (h.first + last_place h + passed + 1) facts h (grown h passed members facts)
step-moves h passed members facts = elim (cases_Bool (is_same members h.current)) [
  | inl same ↦ inl (subst (λ (m : Membership). GoesOn h (grown h passed m facts)) (sym (is_same-eq members h.current same)) (record {
    current = refl;
    first = current_first-goes_on h passed facts;
    past = λ cleans. past_intervals-goes_on enough_of is_by_place cleans h passed facts;
  }))
  | inr differ ↦
      let moved : members ≢ h.current = λ same. true≢false (sym (eq-is_same members h.current same) ∙ differ) in
      let last : h.first + last_place h + passed ≡ h.first + last_place h + passed + 1 - 1 = omega arith in
      inr (record {
        moved = moved;
        first = current_first-over h passed members facts moved;
        past = λ cleans. past_intervals-over enough_of is_by_place cleans h passed members facts moved
            ∙ ap (λ (e : ℕ). past_of cleans h ++ ending_at enough_of is_by_place cleans h e facts ∷ []) last;
      })
]

-- one more incremental without fault makes the new history of the old one
pub record Grown (incs : List Incremental) (inc : Incremental) (h after : History AnyCode) : Type 0 where
  pub members : Membership
  pub is : grown_with incs inc h members ≡ after

grows : (incs : List Incremental) (inc : Incremental) (pg : PgId) (h after : History AnyCode) → are_checked (then_with incs inc) ≡ true
    → group_history incs pg ≡ Some h → group_history (then_with incs inc) pg ≡ Some after → Grown incs inc h after
grows incs inc pg h after checked is then' =
    grind (arith, history-grows incs inc pg h (epochs_ascend incs (front-checked incs (inc ∷ []) checked)) (last-checked incs inc checked) is)

pub data Moves (incs : List Incremental) (inc : Incremental) (h after : History AnyCode) : Type 0 where
  on : after.code ≡ h.code → GoesOn h after → Moves incs inc h after
  ends : after.code ≡ h.code → Ends inc.epoch (primary_facts incs h.current.acting_primary) h after → Moves incs inc h after

pub moves : (incs : List Incremental) (inc : Incremental) (pg : PgId) (h after : History AnyCode) → are_checked (then_with incs inc) ≡ true
    → group_history incs pg ≡ Some h → group_history (then_with incs inc) pg ≡ Some after → Moves incs inc h after
moves incs inc pg h after checked is then' =
    let g = grows incs inc pg h after checked is then' in
    let facts : PrimaryFacts = primary_facts incs h.current.acting_primary in
    let passed : ℕ = passed_over incs inc in
    let opens : h.first + last_place h + passed + 1 ≡ inc.epoch =
    omega (arith, history-last incs pg h (epochs_ascend incs (front-checked incs (inc ∷ []) checked)) is, later_epoch incs inc (last-checked incs inc checked)) in
    subst (Moves incs inc h) g.is (elim (step-moves h passed g.members facts) [
      | inl goes ↦ on refl goes
      | inr over ↦ ends refl (subst (λ (e : ℕ). Ends e facts h (grown h passed g.members facts)) opens over)
    ])

pub first-goes_on : (incs : List Incremental) (inc : Incremental) (pg : PgId) (h after : History AnyCode) → are_checked (then_with incs inc) ≡ true
    → group_history incs pg ≡ Some h → group_history (then_with incs inc) pg ≡ Some after → after.current ≡ h.current → current_first after ≡ current_first h
first-goes_on incs inc pg h after checked is then' same =
    elim (moves incs inc pg h after checked is then') [ on code goes ↦ goes.first | ends code over ↦ absurd (over.moved same) ]

pub first-opens : (incs : List Incremental) (inc : Incremental) (pg : PgId) (h after : History AnyCode) → are_checked (then_with incs inc) ≡ true
    → group_history incs pg ≡ Some h → group_history (then_with incs inc) pg ≡ Some after → after.current ≢ h.current → current_first after ≡ inc.epoch
first-opens incs inc pg h after checked is then' differ =
    elim (moves incs inc pg h after checked is then') [ on code goes ↦ absurd (differ goes.current) | ends code over ↦ over.first ]

-- ---- along a list

-- the current interval opens with the last epoch at most
pub first-within : (incs : List Incremental) (pg : PgId) (h : History AnyCode) → EpochsAscend incs → group_history incs pg ≡ Some h → current_first h ≤ epoch incs
first-within incs pg h counts is = omega (arith, opening_of-le h (last_place h), history-last incs pg h counts is)

pub first-step : (incs : List Incremental) (inc : Incremental) (pg : PgId) (h after : History AnyCode) → are_checked (then_with incs inc) ≡ true
    → group_history incs pg ≡ Some h → group_history (then_with incs inc) pg ≡ Some after → current_first h ≤ current_first after
first-step incs inc pg h after checked is then' =
    let within = first-within incs pg h (epochs_ascend incs (front-checked incs (inc ∷ []) checked)) is in
    let next = later_epoch incs inc (last-checked incs inc checked) in
    elim (moves incs inc pg h after checked is then') [ on code goes ↦ omega (arith, goes.first) | ends code over ↦ omega (arith, over.first) ]

-- a group that is there stays
history-goes_on : (incs : List Incremental) (inc : Incremental) (pg : PgId) (h : History AnyCode) → are_checked (then_with incs inc) ≡ true → group_history incs pg ≡ Some h
    → (after : History AnyCode) × (group_history (then_with incs inc) pg ≡ Some after)
history-goes_on incs inc pg h checked is =
    some_is (group_history (then_with incs inc) pg) (history_there (then_with incs inc) pg ∙ has_group-grows incs inc pg h (last-checked incs inc checked) is)

-- a relation of the histories at two fronts of a checked list, if each incremental keeps it
pub along : (pg : PgId) (Kept : List Incremental → History AnyCode → Type 0)
    → ((incs : List Incremental) (inc : Incremental) (h after : History AnyCode) → are_checked (then_with incs inc) ≡ true → group_history incs pg ≡ Some h → group_history (then_with incs inc) pg ≡ Some after → Kept incs h → Kept (then_with incs inc) after)
    → (later incs : List Incremental) (h after : History AnyCode) → are_checked (incs ++ later) ≡ true → group_history incs pg ≡ Some h → group_history (incs ++ later) pg ≡ Some after → Kept incs h → Kept (incs ++ later) after
along pg Kept step later incs h after checked is then' kept =
    let last = taken-along is_faultless
    (λ (l : List Incremental). (now : History AnyCode) × (group_history l pg ≡ Some now) × Kept l now) next incs later checked (h, is, kept) in
    subst (Kept (incs ++ later)) (same_Some last.0 after (sym last.1 ∙ then')) last.2
  where
    next : (l : List Incremental) (inc : Incremental) → are_checked l ≡ true → is_faultless l inc ≡ true
        → (now : History AnyCode) × (group_history l pg ≡ Some now) × Kept l now
        → (now : History AnyCode) × (group_history (then_with l inc) pg ≡ Some now) × Kept (then_with l inc) now
    next l inc checked' faultless so_far =
        let one = taken-more is_faultless l inc checked' faultless in
        let goes = history-goes_on l inc pg so_far.0 one so_far.1 in
        (goes.0, goes.1, step l inc so_far.0 goes.0 one so_far.1 goes.1 so_far.2)

pub first-never_falls : (incs later : List Incremental) (pg : PgId) (h after : History AnyCode) → are_checked (incs ++ later) ≡ true
    → group_history incs pg ≡ Some h → group_history (incs ++ later) pg ≡ Some after → current_first h ≤ current_first after
first-never_falls incs later pg h after checked is then' =
    along pg (λ _ now. current_first h ≤ current_first now)
    (λ incs inc h₁ h₂ checked is then' kept. let step : current_first h₁ ≤ current_first h₂ = first-step incs inc pg h₁ h₂ checked is then' in omega arith)
    later incs h after checked is then' (omega arith)

pub ruleset first_laws = (first-goes_on, first-never_falls)
