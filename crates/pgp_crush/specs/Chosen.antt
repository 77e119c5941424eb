-- A bucket chooses one of its items: what the law of the trait `Chooser` rests on.
use Rattle.std.proofs.Common.{ℕ, zero, suc, ◌+◌, ◌%◌, ◌<◌, ◌≤◌, Bool, ℤ, pos, List, length, slice_index_or, Contains, inl, inr, arith, rules}
use Rattle.std.proofs.lemmas.Bool.{cases_Bool}
use Rattle.std.proofs.lemmas.Bool.Decides.{nat_tests}
use Rattle.std.proofs.lemmas.Grind.{common_steps}
use Rattle.std.specs.Option.{unwrap_or}
use Rattle.pgp_crush.specs.Least.{least_from, greatest_below}
use Rattle.pgp_crush.specs.Choice.{partner_of, place_before, traced_back, uniform_place, weight_passes, list_place, straw2_place}

partner_of_within : (x id n p : ℕ) → p < n → partner_of x id n p < n
partner_of_within x id n p h = grind arith

pub place_before_within : (x id n p place : ℕ) → p < n → place < n → place_before x id n p place < n
place_before_within x id n p place h g = let partner = partner_of_within x id n p h in grind (arith, nat_tests)

pub traced_back_within : (x id n p place : ℕ) → p ≤ n → place < n → traced_back x id n p place < n
unfolding traced_back
traced_back_within x id n zero place h g = g
traced_back_within x id n (suc p) place h g =
    traced_back_within x id n p (place_before x id n p place) (omega arith) (place_before_within x id n p place (omega arith) g)

pub uniform_place_within : (x r id n : ℕ) → 0 < n → uniform_place x r id n < n
unfolding uniform_place
uniform_place_within x r id n h = traced_back_within x id n (r % n + 1) (r % n) (omega arith) (omega arith)

-- with a number in place of none it is below the limit
pub greatest_below_within : (test : ℕ → Bool) (n k : ℕ) → n ≤ k → 0 < k → unwrap_or (greatest_below test n) 0 < k
unfolding greatest_below
greatest_below_within test zero k h g = g
greatest_below_within test (suc n) k h g =
    let below : unwrap_or (greatest_below test n) 0 < k = greatest_below_within test n k (omega arith) g in
    elim (cases_Bool (test n)) [ inl passes ↦ rw passes (omega arith) | inr fails ↦ rw fails below ]

pub list_place_within : (x r id : ℕ) (items : List ℤ) (weights : List ℕ) → 0 < length items → list_place x r id items weights < length items
unfolding list_place
list_place_within x r id items weights h =
    greatest_below_within (weight_passes x r id items weights) (length items) (length items) (omega arith) h

-- the first number from k on that passes stands before the end, and 0 does if none passes
pub least_from_within : (test : ℕ → Bool) (k n m : ℕ) → k + n ≤ m → 0 < m → unwrap_or (least_from test k n) 0 < m
unfolding least_from
least_from_within test k zero m h g = g
least_from_within test k (suc n) m h g =
    let later : unwrap_or (least_from test (suc k) n) 0 < m = least_from_within test (suc k) n m (omega arith) g in
    elim (cases_Bool (test k)) [ inl passes ↦ rw passes (omega arith) | inr fails ↦ rw fails later ]

pub straw2_place_within : (x r : ℕ) (items : List ℤ) (weights : List ℕ) → 0 < length items → straw2_place x r items weights < length items
unfolding straw2_place
straw2_place_within x r items weights h = least_from_within _ 0 (length items) (length items) (omega arith) h

item_at : (items : List ℤ) (k : ℕ) (d : ℤ) → k < length items → Contains items (slice_index_or items k d)
item_at items k d h = (k, h, search (rules, common_steps))

pub uniform_chooses_item : (x r id : ℕ) (items : List ℤ) → 0 < length items → Contains items (slice_index_or items (uniform_place x r id (length items)) (pos 0))
uniform_chooses_item x r id items h =
    item_at items (uniform_place x r id (length items)) (pos 0) (uniform_place_within x r id (length items) h)

pub list_chooses_item : (x r id : ℕ) (items : List ℤ) (weights : List ℕ) → 0 < length items → Contains items (slice_index_or items (list_place x r id items weights) (pos 0))
list_chooses_item x r id items weights h =
    item_at items (list_place x r id items weights) (pos 0) (list_place_within x r id items weights h)

pub straw2_chooses_item : (x r : ℕ) (items : List ℤ) (weights : List ℕ) → 0 < length items → Contains items (slice_index_or items (straw2_place x r items weights) (pos 0))
straw2_chooses_item x r items weights h = item_at items (straw2_place x r items weights) (pos 0) (straw2_place_within x r items weights h)
