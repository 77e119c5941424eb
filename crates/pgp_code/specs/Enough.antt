-- When slots are enough: one copy of a replicated object, k shards of an erasure-coded one (Ceph's developer
-- documentation on erasure-coded pools). The slots are a list in ascending order.
use Rattle.std.specs.Prelude.{◌≡◌, ℕ, ◌<◌, ◌≤◌, List, [], ◌∷◌, length, Bool, true, false, ◌&&◌, nat_eq, nat_lt, nat_le, refl}
use Rattle.std.proofs.Common.{arith, inl, inr}
use Rattle.std.proofs.lemmas.Bool.Decides.{nat_tests, eqb_tells, leb_tells}
use Rattle.pgp_ids.specs.SlotSet.{IsSlotSet, has_slot, is_within}

-- some copy is there
abbrev pub enough_copies : List ℕ → Bool
enough_copies slots = nat_lt 0 (length slots)

-- at least k shards are there
abbrev pub enough_shards : ℕ → List ℕ → Bool
enough_shards k slots = nat_le k (length slots)

-- ---- the laws of both codes

pub and_left : (a b : Bool) → (a && b) ≡ true → a ≡ true
and_left true b both = refl
and_left false b both = both

pub and_right : (a b : Bool) → (a && b) ≡ true → b ≡ true
and_right true b both = both
and_right false b both = cc

-- no slot up to the first of a set is in its rest
has-rest : (y : ℕ) (b : List ℕ) → IsSlotSet (y ∷ b) → (s : ℕ) → s ≤ y → has_slot s b ≡ false
has-rest y [] sets s low = refl
has-rest y (z ∷ b) sets s low =
    let less : y < z = sets.0 in
    let other : nat_eq s z ≡ false = grind (arith, nat_tests) in
    rw other (has-rest z b sets.1 s (omega arith))

-- what is above y and in y with b is in b
within-rest : (z : ℕ) (a : List ℕ) (y : ℕ) (b : List ℕ) → IsSlotSet (z ∷ a) → y ≤ z → is_within a (y ∷ b) ≡ true → is_within a b ≡ true
within-rest z [] y b sets low within = refl
within-rest z (w ∷ a) y b sets low within =
    let less : z < w = sets.0 in
    let other : nat_eq w y ≡ false = grind (arith, nat_tests) in
    let first : has_slot w b ≡ true = rw other at (and_left (has_slot w (y ∷ b)) _ within) in
    rw (first, within-rest w a y b sets.1 (omega arith) (and_right (has_slot w (y ∷ b)) _ within)) refl

IsSlotSet-rest : (s : ℕ) (slots : List ℕ) → IsSlotSet (s ∷ slots) → IsSlotSet slots
IsSlotSet-rest s [] sets = tt
IsSlotSet-rest s (t ∷ slots) sets = sets.1

-- a set within another has no more slots
pub length-within : (a b : List ℕ) → IsSlotSet a → IsSlotSet b → is_within a b ≡ true → length a ≤ length b
length-within [] b sa sb within = omega arith
length-within (x ∷ a) [] sa sb within = cc
length-within (x ∷ a) (y ∷ b) sa sb within =
    elim (eqb_tells x y) [
      | inl same ↦
          let low : y ≤ x = omega (arith, same.1) in
          let rest = length-within a b (IsSlotSet-rest x a sa) (IsSlotSet-rest y b sb) (within-rest x a y b sa low (and_right (has_slot x (y ∷ b)) _ within)) in
          omega (arith, rest)
      | inr other ↦
          let member : has_slot x b ≡ true = rw other.0 at (and_left (has_slot x (y ∷ b)) _ within) in
          elim (leb_tells x y) [
            | inl low ↦ let none : has_slot x b ≡ false = has-rest y b sb x low.1 in cc
            | inr high ↦
                let low : y ≤ x = omega (arith, high.1) in
                let inside : is_within a b ≡ true = within-rest x a y b sa low (and_right (has_slot x (y ∷ b)) _ within) in
                let rest = length-within (x ∷ a) b sa (IsSlotSet-rest y b sb) (rw (member, inside) refl) in
                omega (arith, rest)
          ]
    ]

pub enough_copies-mono : (a b : List ℕ) → IsSlotSet a → IsSlotSet b → is_within a b ≡ true → enough_copies a ≡ true → enough_copies b ≡ true
enough_copies-mono a b sa sb within enough = let more : length a ≤ length b = length-within a b sa sb within in grind (arith, nat_tests)

pub enough_copies-nil : enough_copies [] ≡ false
enough_copies-nil = refl

pub enough_shards-mono : (k : ℕ) (a b : List ℕ) → IsSlotSet a → IsSlotSet b → is_within a b ≡ true → enough_shards k a ≡ true → enough_shards k b ≡ true
enough_shards-mono k a b sa sb within enough = let more : length a ≤ length b = length-within a b sa sb within in grind (arith, nat_tests)

pub enough_shards-nil : (k : ℕ) → 1 ≤ k → enough_shards k [] ≡ false
enough_shards-nil k some = grind (arith, nat_tests)
