-- The codes of all pools in one.
use Rattle.std.specs.Prelude.{◌≡◌, ℕ, List, [], Bool, true, false}
use Rattle.pgp_ids.specs.SlotSet.{IsSlotSet, is_within}
use Rattle.pgp_code.specs.Enough.{enough_copies, enough_shards, enough_copies-mono, enough_copies-nil, enough_shards-mono, enough_shards-nil}
use Rattle.pgp_code.specs.Parts.{enough_parts, enough_parts-mono, enough_parts-nil}
use Rattle.pgp_code.specs.declared.any.AnyCode.{AnyCode}
use Rattle.pgp_code.specs.declared.any.AnyCode.TheVariants.{Replicated, Erasure, Grouped}

-- the slots are enough for the code
abbrev pub enough_of : AnyCode → List ℕ → Bool
enough_of (Replicated code) slots = enough_copies slots
enough_of (Erasure code) slots = enough_shards code.k slots
enough_of (Grouped code) slots = enough_parts code.groups slots

-- a member's slot is its place in the list
abbrev pub is_by_place : AnyCode → Bool
is_by_place (Replicated code) = false
is_by_place (Erasure code) = true
is_by_place (Grouped code) = true

pub enough_of-mono : (code : AnyCode) (a b : List ℕ) → IsSlotSet a → IsSlotSet b → is_within a b ≡ true → enough_of code a ≡ true → enough_of code b ≡ true
enough_of-mono (Replicated code) a b = enough_copies-mono a b
enough_of-mono (Erasure code) a b = enough_shards-mono code.k a b
enough_of-mono (Grouped code) a b = enough_parts-mono code.groups a b

pub enough_of-nil : (code : AnyCode) → enough_of code [] ≡ false
enough_of-nil (Replicated code) = enough_copies-nil
enough_of-nil (Erasure code) = enough_shards-nil code.k code.at_least_one
enough_of-nil (Grouped code) = enough_parts-nil code.groups code.wanted
