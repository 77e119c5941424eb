-- Items that go into an ascending list one after the other, and walks over lists.
use Rattle.std.proofs.Common.{◌≡◌, ◌⊎◌, ℕ, ◌+◌, ◌<◌, List, [], ◌∷◌, ◌++◌, Bool, true, false, length, get_or, drop, nat_lt, ap, sym, ◌∙◌, subst, inl, inr, arith}
use Rattle.std.specs.List.{Contains, filter, flat_map}
use Rattle.std.specs.Ordering.{is_lt, nat_cmp}
use Rattle.std.proofs.lemmas.Bool.Decides.{nat_tests}
use Rattle.std.proofs.lemmas.List.{drop_more}
use Rattle.std.proofs.lemmas.List.Sums.{fold-append}
use Rattle.pgp_ids.specs.Member.{is_before}
use Rattle.pgp_ids.specs.declared.member.Member.{Member}
use Rattle.pgp_lists.specs.Ordered.{IsAscending, with_item, ascending, with_items}
use Rattle.pgp_lists.proofs.Members.{Contains-nil, Contains-first, Contains-later, Contains-cases}
use Rattle.pgp_lists.proofs.Pairs.{AllPairs-nil}
use Rattle.pgp_lists.proofs.Ordered.{IsOrder, with_item-contains, contains-with_item, IsAscending-with_item, ascending-contains, contains-ascending, IsAscending-ascending, ascending-unique, nat_order}
use Rattle.pgp_prior.specs.MemberOrder.{member_order}

module _ {X : Type 0} (before : X → X → Bool) where
  with_items-contains : (items list : List X) (z : X) → Contains (with_items before items list) z → Contains list z ⊎ Contains items z
  with_items-contains [] list z in' = inl in'
  with_items-contains (x ∷ items) list z in' =
      grind (arith, with_items-contains items (with_item before x list) z in', with_item-contains before x list z, Contains-first x items z, Contains-later x items z)

  module _ (order : IsOrder before) where
    contains-with_items : (items list : List X) (z : X) → Contains list z ⊎ Contains items z → Contains (with_items before items list) z
    contains-with_items [] list z (inl old) = old
    contains-with_items [] list z (inr in') = absurd (Contains-nil z in')
    contains-with_items (x ∷ items) list z which =
        contains-with_items items (with_item before x list) z
        (grind (arith, contains-with_item before x list (λ y there. order.connected x y) z, Contains-cases x items z))

    IsAscending-with_items : (items list : List X) → IsAscending before list → IsAscending before (with_items before items list)
    IsAscending-with_items [] list ascends = ascends
    IsAscending-with_items (x ∷ items) list ascends =
        IsAscending-with_items items (with_item before x list) (IsAscending-with_item before order.transitive x list ascends)

    pub ascends-with : (items list after : List X) → after ≡ with_items before items list → IsAscending before list → IsAscending before after
    ascends-with items list after is ascends = rw is (IsAscending-with_items items list ascends)

    pub first-ascends : (items list after : List X) → list ≡ [] → after ≡ with_items before items list → IsAscending before after
    first-ascends items list after none is = ascends-with items list after is (rw none (AllPairs-nil (λ x y. before x y ≡ true)))

    -- the elements in ascending order are those that went in from the first to the last
    pub ascending-is : ((x : X) → before x x ≡ false) → (xs : List X) → ascending before xs ≡ with_items before xs []
    ascending-is irreflexive xs =
        ascending-unique before order.transitive irreflexive (ascending before xs) (with_items before xs [])
        (IsAscending-ascending before order xs) (IsAscending-with_items xs [] (AllPairs-nil (λ x y. before x y ≡ true)))
        (λ z in'. contains-with_items xs [] z (inr (ascending-contains before xs z in')))
        (λ z in'. elim (with_items-contains xs [] z in') [
          | inl none ↦ absurd (Contains-nil z none)
          | inr there ↦ contains-ascending before order xs z there
        ])

-- three lists that went in one after the other
all-three : {X : Type 0} (before : X → X → Bool) (xs ys zs : List X) → with_items before zs (with_items before ys (with_items before xs [])) ≡ with_items before (xs ++ ys ++ zs) []
all-three {X} before xs ys zs =
    let step = λ (list : List X) (item : X). with_item before item list in
    sym (fold-append step [] (xs ++ ys) zs ∙ ap (with_items before zs) (fold-append step [] xs ys))

-- ---- walks, which put what they read of each element that passes a test into a list

-- with what is still to be read the list has all, and it ascends
pub record IsWalk {X Y : Type 0} (before : Y → Y → Bool) (read : X → List Y) (test : X → Bool) (all : List Y) (left : List X) (list : List Y) : Type 0 where
  pub gives : with_items before (flat_map read (filter test left)) list ≡ all
  pub ascends : IsAscending before list

module _ {X Y : Type 0} {before : Y → Y → Bool} (order : IsOrder before) {read : X → List Y} {test : X → Bool} where
  -- two lists went in before
  pub walk-starts : ((ys : List Y) → ascending before ys ≡ with_items before ys []) → (first second list : List Y) (xs : List X) → list ≡ with_items before second (with_items before first [])
      → IsWalk before read test (ascending before (first ++ second ++ flat_map read (filter test xs))) xs list
  walk-starts in_order first second list xs is =
      record {
        gives = rw (is, in_order (first ++ second ++ flat_map read (filter test xs))) (all-three before first second (flat_map read (filter test xs)));
        ascends = ascends-with before order second _ list is (IsAscending-with_items before order first [] (AllPairs-nil (λ x y. before x y ≡ true)));
      }

  -- the next element passes and what is read of it goes in, or it doesn't and the list stays
  pub walk-next : {all list after : List Y} (xs : List X) (i : ℕ) (x : X) → IsWalk before read test all (drop i xs) list → i < length xs → x ≡ get_or xs i x
      → (test x ≡ true) × (after ≡ with_items before (read x) list) ⊎ (test x ≡ false) × (after ≡ list) → IsWalk before read test all (drop (i + 1) xs) after
  walk-next {all} {list} {after} xs i x walk below is which =
      let next : with_items before (flat_map read (filter test (x ∷ drop (i + 1) xs))) list ≡ all =
      subst (λ y. with_items before (flat_map read (filter test (y ∷ drop (i + 1) xs))) list ≡ all) (sym is) (rw (drop_more xs i x below) at walk.gives) in
      elim which [
        | inl passes ↦ record {
          gives = rw (passes.1, ← fold-append (λ kept y. with_item before y kept) list (read x) (flat_map read (filter test (drop (i + 1) xs)))) (rw passes.0 at next);
          ascends = ascends-with before order (read x) list after passes.1 walk.ascends;
        }
        | inr fails ↦ rw fails.1 (record { gives = rw fails.0 at next; ascends = walk.ascends })
      ]

-- ---- numbers and members

pub numbers-in_order : (xs : List ℕ) → ascending nat_lt xs ≡ with_items nat_lt xs []
numbers-in_order = ascending-is nat_lt nat_order (λ x. grind (arith, nat_tests))

pub members-in_order : (xs : List Member) → ascending is_before xs ≡ with_items is_before xs []
members-in_order = ascending-is is_before member_order (λ x. grind (arith, nat_tests))

less_is : (a b : ℕ) → is_lt (nat_cmp a b) ≡ nat_lt a b
less_is a b = grind (arith, nat_tests)

-- a number goes in by a comparison as by the order
pub with_number : (x : ℕ) (xs : List ℕ) → with_item (λ (a b : ℕ). is_lt (nat_cmp a b)) x xs ≡ with_item nat_lt x xs
with_number x xs = λ i. with_item (λ a b. less_is a b i) x xs
