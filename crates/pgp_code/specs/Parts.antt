-- When slots are enough for a grouped code: of each part at least its least number is there (this project's own choice).
use Rattle.std.specs.Prelude.{◌≡◌, ℕ, ◌≤◌, List, [], ◌∷◌, length, Option, Some, None, is_some, Bool, true, false, ◌&&◌, nat_le, refl}
use Rattle.std.specs.List.{list_any, list_all}
use Rattle.std.proofs.Common.{ap, ◌∙◌, arith, inl, inr}
use Rattle.std.proofs.lemmas.Bool.{cases_Bool}
use Rattle.std.proofs.lemmas.Bool.Decides.{nat_tests, eqb_tells}
use Rattle.pgp_ids.specs.SlotSet.{IsSlotSet, has_slot, is_within, common}
use Rattle.pgp_ids.specs.Parts.{parts_of}
use Rattle.pgp_ids.specs.declared.part.Part.{Part}
use Rattle.pgp_code.specs.Enough.{and_left, and_right}

-- of the part at least its least number of slots is there
abbrev pub enough_of_part : List ℕ → Part → Bool
enough_of_part slots part = nat_le part.least (length (common part.slots slots))

-- of each part at least its least number of slots is there
abbrev pub enough_parts : List (Option Part) → List ℕ → Bool
enough_parts groups slots = list_all (enough_of_part slots) (parts_of groups)

-- there is a part, and each wants a slot at least
abbrev pub want_slots : List (Option Part) → Bool
want_slots groups = list_any is_some groups && list_all (λ part. nat_le 1 part.least) (parts_of groups)

-- one of the slots 0 and 1, and slot 2
abbrev pub pair_and_one : List (Option Part)
pair_and_one =
    Some (record { slots = 0 ∷ 1 ∷ []; least = 1; twice = false }) ∷ Some (record { slots = 2 ∷ []; least = 1; twice = false }) ∷ []

-- ---- the laws of the code

-- a slot of a list is one of each list that this is within
has-within : (s : ℕ) (a b : List ℕ) → is_within a b ≡ true → has_slot s a ≡ true → has_slot s b ≡ true
has-within s [] b within has = cc
has-within s (x ∷ a) b within has = elim (eqb_tells s x) [
  | inl same ↦ ap (λ slot. has_slot slot b) same.1 ∙ and_left (has_slot x b) _ within
  | inr other ↦ has-within s a b (and_right (has_slot x b) _ within) (rw other.0 at has)
]

-- more slots have no fewer in common with a part
length-common : (slots a b : List ℕ) → is_within a b ≡ true → length (common slots a) ≤ length (common slots b)
length-common [] a b within = omega arith
length-common (s ∷ slots) a b within =
    let rest = length-common slots a b within in
    elim (cases_Bool (has_slot s a)) [
      | inl in_a ↦ rw (in_a, has-within s a b within in_a) (omega (arith, rest))
      | inr not_a ↦ elim (cases_Bool (has_slot s b)) [
        | inl in_b ↦ rw (not_a, in_b) (omega (arith, rest))
        | inr not_b ↦ rw (not_a, not_b) rest
      ]
    ]

enough_of_part-mono : (part : Part) (a b : List ℕ) → is_within a b ≡ true → enough_of_part a part ≡ true → enough_of_part b part ≡ true
enough_of_part-mono part a b within enough = let more = length-common part.slots a b within in grind (arith, nat_tests)

pub enough_parts-mono : (groups : List (Option Part)) (a b : List ℕ) → IsSlotSet a → IsSlotSet b → is_within a b ≡ true → enough_parts groups a ≡ true → enough_parts groups b ≡ true
enough_parts-mono [] a b sa sb within enough = refl
enough_parts-mono (None ∷ groups) a b sa sb within enough = enough_parts-mono groups a b sa sb within enough
enough_parts-mono (Some part ∷ groups) a b sa sb within enough =
    let first = enough_of_part-mono part a b within (and_left (enough_of_part a part) _ enough) in
    let rest = enough_parts-mono groups a b sa sb within (and_right (enough_of_part a part) _ enough) in
    rw (first, rest) refl

common-nil : (slots : List ℕ) → common slots [] ≡ []
common-nil [] = refl
common-nil (s ∷ slots) = common-nil slots

pub enough_parts-nil : (groups : List (Option Part)) → want_slots groups ≡ true → enough_parts groups [] ≡ false
enough_parts-nil [] want = cc
enough_parts-nil (None ∷ groups) want = enough_parts-nil groups want
enough_parts-nil (Some part ∷ groups) want =
    let some : nat_le 1 part.least ≡ true = and_left (nat_le 1 part.least) _ want in
    let none : enough_of_part [] part ≡ false = rw (common-nil part.slots) (grind (arith, nat_tests)) in
    rw none refl
