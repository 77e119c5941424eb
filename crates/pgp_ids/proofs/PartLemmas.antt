-- What the set of a list of slots has, and what one slot more does to a list.
use Rattle.std.proofs.Common.{◌≡◌, ℕ, ◌+◌, ◌<◌, List, [], ◌∷◌, ◌++◌, Bool, false, ◌||◌, nat_eq, nat_lt, length, get_or, take, refl, ap, ◌∙◌, arith, inl, inr, fold}
use Rattle.std.proofs.lemmas.Bool.{cases_Bool}
use Rattle.std.proofs.lemmas.Bool.Decides.{nat_tests, eqb_tells}
use Rattle.std.proofs.lemmas.List.{take_more}
use Rattle.std.proofs.lemmas.List.Folds.{list_any-append}
use Rattle.pgp_ids.specs.SlotSet.{has_slot, with_slot}
use Rattle.pgp_ids.specs.Parts.{set_of, has_twice}

-- a set with one slot more has that one and its own
pub has_slot-with : (k slot : ℕ) (slots : List ℕ) → has_slot k (with_slot slot slots) ≡ (nat_eq k slot || has_slot k slots)
has_slot-with k slot [] = refl
has_slot-with k slot (s ∷ slots) = elim (cases_Bool (nat_lt slot s)) [
  | inl less ↦ rw less refl
  | inr not_less ↦ elim (eqb_tells slot s) [
    | inl same ↦ rw (not_less, same.0) (once (nat_eq k s) (nat_eq k slot) (has_slot k slots) (ap (nat_eq k) same.1))
    | inr other ↦ rw (not_less, other.0) (swap (nat_eq k s) (nat_eq k slot) (has_slot k slots) (has_slot k (with_slot slot slots)) (has_slot-with k slot slots))
  ]
]
  where
    once : (here same there : Bool) → same ≡ here → (here || there) ≡ (same || (here || there))
    once here same there e = grind arith

    swap : (here same there all : Bool) → all ≡ (same || there) → (here || all) ≡ (same || (here || there))
    swap here same there all e = grind arith

has_slot-fold : (k : ℕ) (set slots : List ℕ) → has_slot k (fold (λ some slot. with_slot slot some) set slots) ≡ (has_slot k set || has_slot k slots)
has_slot-fold k set [] = none (has_slot k set)
  where
    none : (b : Bool) → b ≡ (b || false)
    none b = grind arith
has_slot-fold k set (slot ∷ slots) =
    has_slot-fold k (with_slot slot set) slots
    ∙ joined (has_slot k (with_slot slot set)) (nat_eq k slot) (has_slot k set) (has_slot k slots) (has_slot-with k slot set)
  where
    joined : (both here set rest : Bool) → both ≡ (here || set) → (both || rest) ≡ (set || (here || rest))
    joined both here set rest e = grind arith

-- the set of a list has the slots of the list
pub has_slot-set_of : (k : ℕ) (slots : List ℕ) → has_slot k (set_of slots) ≡ has_slot k slots
has_slot-set_of k slots = has_slot-fold k [] slots

has_twice-push : (slots : List ℕ) (k : ℕ) → has_twice (slots ++ k ∷ []) ≡ (has_twice slots || has_slot k slots)
has_twice-push [] k = refl
has_twice-push (slot ∷ slots) k =
    joined (has_slot slot (slots ++ k ∷ [])) (has_slot slot slots) (nat_eq slot k) (nat_eq k slot) (has_twice (slots ++ k ∷ [])) (has_twice slots) (has_slot k slots) (list_any-append (nat_eq slot) slots (k ∷ [])) (same slot k) (has_twice-push slots k)
  where
    joined : (both there same other all front back : Bool) → both ≡ (there || (same || false)) → same ≡ other → all ≡ (front || back)
        → (both || all) ≡ ((there || front) || (other || back))
    joined both there same other all front back is e rest = grind arith

    same : (a b : ℕ) → nat_eq a b ≡ nat_eq b a
    same a b = grind (arith, nat_tests)

-- one slot more is twice in the list where it was there
pub has_twice_more : (slots : List ℕ) (i : ℕ) → i < length slots → has_twice (take (i + 1) slots) ≡ (has_twice (take i slots) || has_slot (get_or slots i 0) (take i slots))
has_twice_more slots i below = ap has_twice (take_more slots i 0 below) ∙ has_twice-push (take i slots) (get_or slots i 0)
