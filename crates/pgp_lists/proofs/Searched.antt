-- What a binary search finds in an ascending list, and what an insert there leaves.
use Rattle.std.proofs.Common.{◌≡◌, ℕ, zero, suc, ◌+◌, ◌<◌, ◌≤◌, List, [], ◌∷◌, Bool, true, false, length, get_or, refl, ap, ◌∙◌, arith}
use Rattle.std.specs.declared.cmp.Ordering.{Ordering}
use Rattle.std.specs.declared.cmp.Ordering.TheVariants.{Less, Equal, Greater}
use Rattle.std.specs.Ordering.{is_lt, ordering_reverse, ordering_index}
use Rattle.std.specs.Cmp.{IsTotalOrder}
use Rattle.std.specs.List.{insert}
use Rattle.std.specs.List.Sorted.{IsNonDecreasingBy, IsPartitionPoint}
use Rattle.std.proofs.lemmas.Bool.{cases_Bool}
use Rattle.std.proofs.lemmas.List.Sorted.{searchable_from_sorted}
use Rattle.pgp_lists.specs.Ordered.{IsAscending, with_item}

-- ---- by a test of which of two stands first

-- the item goes between those that stand before it and those that it stands before
insert-with_item : {X : Type 0} (before : X → X → Bool) (xs : List X) (place : ℕ) (x : X) → place ≤ length xs → ((k : ℕ) → k < place → (before x (get_or xs k x) ≡ false) × (before (get_or xs k x) x ≡ true)) → (place < length xs → before x (get_or xs place x) ≡ true) → insert xs place x ≡ with_item before x xs
insert-with_item before [] zero x low front back = refl
insert-with_item before [] (suc place) x low front back = absurd (omega arith)
insert-with_item before (y ∷ xs) zero x low front back = let first : before x y ≡ true = back (omega arith) in rw first refl
insert-with_item before (y ∷ xs) (suc place) x low front back =
    grind (arith, front 0, insert-with_item before xs place x (omega arith) (λ k below. front (suc k) (omega arith)) (λ below. back (omega arith)))

-- an item that stands neither before nor after one of the list, and before none up to it, leaves the list
found-with_item : {X : Type 0} (before : X → X → Bool) (xs : List X) (place : ℕ) (x : X) → place < length xs → ((k : ℕ) → k ≤ place → before x (get_or xs k x) ≡ false) → before (get_or xs place x) x ≡ false → with_item before x xs ≡ xs
found-with_item before [] place x low front at = absurd (omega arith)
found-with_item before (y ∷ xs) zero x low front at = grind (arith, front 0, at)
found-with_item before (y ∷ xs) (suc place) x low front at =
    grind (arith, front 0, cases_Bool (before y x), found-with_item before xs place x (omega arith) (λ k below. front (suc k) (omega arith)) at)

-- ---- by an order

is_lt-reverse : (r : Ordering) → is_lt r ≡ true → is_lt (ordering_reverse r) ≡ false
is_lt-reverse r is = grind arith

module _ {X : Type 0} {R : X → X → Ordering} (order : IsTotalOrder R) where
  pub searchable : (xs : List X) (x : X) → IsAscending (λ a b. is_lt (R a b)) xs → IsNonDecreasingBy (λ y. ordering_index (R y x)) xs
  searchable xs x ascends =
      searchable_from_sorted order (λ y. y) xs x
      (λ k d low below. ap is_lt (order.antisymm (get_or xs (k + 1) d) (get_or xs k d)) ∙ is_lt-reverse _ (ascends k (k + 1) d (omega arith) below))

  -- where the search found no such item
  pub put_new : (xs : List X) (place : ℕ) (x : X) → IsAscending (λ a b. is_lt (R a b)) xs → place ≤ length xs → (IsNonDecreasingBy (λ y. ordering_index (R y x)) xs → IsPartitionPoint (λ y. R y x ≡ Less) (λ y. R y x ≡ Greater) xs place) → insert xs place x ≡ with_item (λ a b. is_lt (R a b)) x xs
  put_new xs place x ascends low splits =
      let point = splits (searchable xs x ascends) in
      insert-with_item (λ a b. is_lt (R a b)) xs place x low
      (λ k below. let is : R (get_or xs k x) x ≡ Less = point.0 k x (omega arith) below in (
        ap is_lt (order.antisymm x (get_or xs k x) ∙ ap ordering_reverse is),
        ap is_lt is,
      ))
      (λ below. let is : R (get_or xs place x) x ≡ Greater = point.1 place x (omega arith) below in
      ap is_lt (order.antisymm x (get_or xs place x) ∙ ap ordering_reverse is))

  not_above : (r : Ordering) → ordering_index r ≤ 1 → is_lt (ordering_reverse r) ≡ false
  not_above r low = grind arith

  -- where it found one
  pub put_there : (xs : List X) (place : ℕ) (x : X) → IsAscending (λ a b. is_lt (R a b)) xs → place < length xs → ((d : X) → R (get_or xs place d) x ≡ Equal) → with_item (λ a b. is_lt (R a b)) x xs ≡ xs
  put_there xs place x ascends low at =
      found-with_item (λ a b. is_lt (R a b)) xs place x low
      (λ k below.
      let rises : ordering_index (R (get_or xs k x) x) ≤ ordering_index (R (get_or xs place x) x) = searchable xs x ascends k place x below low in
      let one : ordering_index (R (get_or xs place x) x) ≡ 1 = ap ordering_index (at x) in
      ap is_lt (order.antisymm x (get_or xs k x)) ∙ not_above _ (omega (arith, rises, one)))
      (ap is_lt (at x))
