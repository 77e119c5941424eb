-- A set of slots: the list of its slots in ascending order, each once.
use Rattle.std.specs.Prelude.{ℕ, ◌<◌, List, [], ◌∷◌, Bool, nat_eq, nat_lt, filter, if◌then◌else◌}
use Rattle.std.specs.List.{list_any, list_all}

-- the slots are in ascending order, each once
abbrev pub IsSlotSet : List ℕ → Type 0
IsSlotSet [] = Unit {0}
IsSlotSet (s ∷ []) = Unit {0}
IsSlotSet (s ∷ t ∷ slots) = (s < t) × IsSlotSet (t ∷ slots)

-- the slot is in the set
abbrev pub has_slot : ℕ → List ℕ → Bool
has_slot slot slots = list_any (nat_eq slot) slots

-- the set with this slot too
abbrev pub with_slot : ℕ → List ℕ → List ℕ
with_slot slot [] = slot ∷ []
with_slot slot (s ∷ slots) =
    if nat_lt slot s then slot ∷ s ∷ slots else (if nat_eq slot s then s ∷ slots else s ∷ with_slot slot slots)

-- each slot of the first is in the second
abbrev pub is_within : List ℕ → List ℕ → Bool
is_within slots others = list_all (λ slot. has_slot slot others) slots

-- the slots that are in both
abbrev pub common : List ℕ → List ℕ → List ℕ
common slots others = filter (λ slot. has_slot slot others) slots

-- each slot is below the limit
abbrev pub is_below : ℕ → List ℕ → Bool
is_below limit slots = list_all (λ slot. nat_lt slot limit) slots
