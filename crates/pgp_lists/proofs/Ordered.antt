-- A list in ascending order has the elements of the list that was put in order, and ascends.
use Rattle.std.proofs.Common.{◌≡◌, ◌⊎◌, suc, List, [], ◌∷◌, Bool, true, false, nat_lt, sym, ap, ap₂, refl, ◌∙◌, subst, inl, inr, arith}
use Rattle.std.specs.List.{Contains, All}
use Rattle.std.proofs.lemmas.Bool.{cases_Bool}
use Rattle.std.proofs.lemmas.Bool.Decides.{nat_tests}
use Rattle.std.proofs.lemmas.List.Elements.{All-contains, All-nil, All-cons}
use Rattle.std.proofs.lemmas.List.Kept.{AllPairs-cons}
use Rattle.pgp_lists.specs.Ordered.{IsAscending, with_item, ascending}
use Rattle.pgp_lists.proofs.Members.{Contains-here, Contains-cases, Contains-nil, Contains-first, Contains-later}
use Rattle.pgp_lists.proofs.Pairs.{AllPairs-first, AllPairs-rest, AllPairs-nil}

-- of two elements that are not the same one stands before the other
pub record IsOrder {X : Type 0} (before : X → X → Bool) : Type 0 where
  pub transitive : (x y z : X) → before x y ≡ true → before y z ≡ true → before x z ≡ true
  pub connected : (x y : X) → before x y ≡ false → before y x ≡ false → x ≡ y

-- ---- the elements

pub with_item-contains : {X : Type 0} (before : X → X → Bool) (x : X) (ys : List X) (z : X) → Contains (with_item before x ys) z → (x ≡ z) ⊎ Contains ys z
with_item-contains before x [] z in' = Contains-cases x [] z in'
with_item-contains before x (y ∷ ys) z in' = elim (cases_Bool (before x y)) [
  | inl first ↦ Contains-cases x (y ∷ ys) z (rw first at in')
  | inr after ↦ elim (cases_Bool (before y x)) [
    | inl later ↦ elim (Contains-cases y (with_item before x ys) z (rw (after, later) at in')) [
      | inl here ↦ inr (Contains-first y ys z here)
      | inr further ↦ elim (with_item-contains before x ys z further) [
        | inl new ↦ inl new
        | inr old ↦ inr (Contains-later y ys z old)
      ]
    ]
    | inr same ↦ inr (rw (after, same) at in')
  ]
]

pub contains-with_item : {X : Type 0} (before : X → X → Bool) (x : X) (ys : List X) → ((y : X) → Contains ys y → before x y ≡ false → before y x ≡ false → x ≡ y) → (z : X) → (x ≡ z) ⊎ Contains ys z → Contains (with_item before x ys) z
contains-with_item before x [] connected z (inl new) = Contains-first x [] z new
contains-with_item before x [] connected z (inr old) = absurd (Contains-nil z old)
contains-with_item before x (y ∷ ys) connected z which = elim (cases_Bool (before x y)) [
  | inl first ↦ rw first (elim which [
    | inl new ↦ Contains-first x (y ∷ ys) z new
    | inr old ↦ Contains-later x (y ∷ ys) z old
  ])
  | inr after ↦ elim (cases_Bool (before y x)) [
    | inl later ↦ rw (after, later) (elim which [
      | inl new ↦ Contains-later y (with_item before x ys) z (contains-with_item before x ys (λ w in'. connected w (Contains-later y ys w in')) z (inl new))
      | inr old ↦ elim (Contains-cases y ys z old) [
        | inl here ↦ Contains-first y (with_item before x ys) z here
        | inr further ↦ Contains-later y (with_item before x ys) z (contains-with_item before x ys (λ w in'. connected w (Contains-later y ys w in')) z (inr further))
      ]
    ])
    | inr same ↦ rw (after, same) (elim which [
      | inl new ↦ Contains-first y ys z (sym (connected y (Contains-here y ys) after same) ∙ new)
      | inr old ↦ old
    ])
  ]
]

pub ascending-contains : {X : Type 0} (before : X → X → Bool) (xs : List X) (z : X) → Contains (ascending before xs) z → Contains xs z
ascending-contains before [] z in' = in'
ascending-contains before (x ∷ xs) z in' = elim (with_item-contains before x (ascending before xs) z in') [
  | inl here ↦ Contains-first x xs z here
  | inr later ↦ Contains-later x xs z (ascending-contains before xs z later)
]

-- where of two elements of the list that are not the same one stands before the other
pub contains-ascending_of : {X : Type 0} (before : X → X → Bool) (xs : List X) → ((x y : X) → Contains xs x → Contains xs y → before x y ≡ false → before y x ≡ false → x ≡ y) → (z : X) → Contains xs z → Contains (ascending before xs) z
contains-ascending_of before [] connected z in' = in'
contains-ascending_of {X} before (x ∷ xs) connected z in' =
    let rest = contains-ascending_of before xs (λ v w in_v in_w. connected v w (Contains-later x xs v in_v) (Contains-later x xs w in_w)) in
    let others = λ (y : X) (there : Contains (ascending before xs) y). connected x y (Contains-here x xs) (Contains-later x xs y (ascending-contains before xs y there)) in
    elim (Contains-cases x xs z in') [
      | inl here ↦ contains-with_item before x (ascending before xs) others z (inl here)
      | inr later ↦ contains-with_item before x (ascending before xs) others z (inr (rest z later))
    ]

pub contains-ascending : {X : Type 0} (before : X → X → Bool) → IsOrder before → (xs : List X) (z : X) → Contains xs z → Contains (ascending before xs) z
contains-ascending before order xs = contains-ascending_of before xs (λ x y in_x in_y. order.connected x y)

-- ---- the order

All-with_item : {X : Type 0} (before : X → X → Bool) (P : X → Type 0) (x : X) (ys : List X) → P x → All P ys → All P (with_item before x ys)
All-with_item before P x [] here all = All-cons P x [] here (All-nil P)
All-with_item before P x (y ∷ ys) here all =
    let first : P y = all 0 y (omega arith) in
    let rest : All P ys = λ k d below. all (suc k) d (omega arith) in
    elim (cases_Bool (before x y)) [
      | inl front ↦ rw front (All-cons P x (y ∷ ys) here all)
      | inr after ↦ elim (cases_Bool (before y x)) [
        | inl later ↦ rw (after, later) (All-cons P y (with_item before x ys) first (All-with_item before P x ys here rest))
        | inr same ↦ rw (after, same) all
      ]
    ]

pub IsAscending-with_item : {X : Type 0} (before : X → X → Bool) → ((x y z : X) → before x y ≡ true → before y z ≡ true → before x z ≡ true) → (x : X) (ys : List X) → IsAscending before ys → IsAscending before (with_item before x ys)
IsAscending-with_item before transitive x [] ordered = AllPairs-cons (λ x y. before x y ≡ true) x [] (All-nil (λ y. before x y ≡ true)) ordered
IsAscending-with_item {X} before transitive x (y ∷ ys) ordered =
    let R : X → X → Type 0 = λ a b. before a b ≡ true in
    let after_y : All (R y) ys = AllPairs-first R y ys ordered in
    let rest : IsAscending before ys = AllPairs-rest R y ys ordered in
    elim (cases_Bool (before x y)) [
      | inl front ↦
          let after_x : All (R x) ys = λ k d below. transitive x y _ front (after_y k d below) in
          rw front (AllPairs-cons R x (y ∷ ys) (All-cons (R x) y ys front after_x) ordered)
      | inr after ↦ elim (cases_Bool (before y x)) [
        | inl later ↦
            let all : All (R y) (with_item before x ys) = All-with_item before (R y) x ys later after_y in
            rw (after, later) (AllPairs-cons R y (with_item before x ys) all (IsAscending-with_item before transitive x ys rest))
        | inr same ↦ rw (after, same) ordered
      ]
    ]

pub IsAscending-by_transitive : {X : Type 0} (before : X → X → Bool) → ((x y z : X) → before x y ≡ true → before y z ≡ true → before x z ≡ true) → (xs : List X) → IsAscending before (ascending before xs)
IsAscending-by_transitive before transitive [] = AllPairs-nil (λ x y. before x y ≡ true)
IsAscending-by_transitive before transitive (x ∷ xs) = IsAscending-with_item before transitive x (ascending before xs) (IsAscending-by_transitive before transitive xs)

pub IsAscending-ascending : {X : Type 0} (before : X → X → Bool) → IsOrder before → (xs : List X) → IsAscending before (ascending before xs)
IsAscending-ascending before order = IsAscending-by_transitive before order.transitive

-- ---- the order of numbers

pub nat_order : IsOrder nat_lt
nat_order = record {
  transitive = λ x y z xy yz. grind (arith, nat_tests);
  connected = λ x y xy yx. grind (arith, nat_tests);
}

-- ---- two lists in ascending order with the same elements

is_or_after : {X : Type 0} (before : X → X → Bool) (x : X) (xs : List X) → IsAscending before (x ∷ xs) → (y : X) → Contains (x ∷ xs) y → (x ≡ y) ⊎ (before x y ≡ true)
is_or_after {X} before x xs ordered y in' =
    let R : X → X → Type 0 = λ a b. before a b ≡ true in
    elim (Contains-cases x xs y in') [
      | inl here ↦ inl here
      | inr later ↦ inr (All-contains (R x) xs y (AllPairs-first R x xs ordered) later)
    ]

module _ {X : Type 0} (before : X → X → Bool) (transitive : (x y z : X) → before x y ≡ true → before y z ≡ true → before x z ≡ true) (irreflexive : (x : X) → before x x ≡ false) where
  not_round : (x y : X) → before x y ≡ true → before y x ≡ true → ⊥
  not_round x y forth back = let round = transitive x y x forth back in let not = irreflexive x in let no : true ≡ false = sym round ∙ not in cc

  one_first : (x y : X) → (x ≡ y) ⊎ (before x y ≡ true) → (y ≡ x) ⊎ (before y x ≡ true) → x ≡ y
  one_first x y (inl same) other = same
  one_first x y (inr after) (inl same) = sym same
  one_first x y (inr after) (inr back) = absurd (not_round x y after back)

  -- what stands after the first is among what stands after an equal first
  later_in : (x : X) (xs ys : List X) → IsAscending before (x ∷ xs) → ((z : X) → Contains (x ∷ xs) z → Contains (x ∷ ys) z) → (z : X) → Contains xs z → Contains ys z
  later_in x xs ys ordered within z in' =
      elim (Contains-cases x ys z (within z (Contains-later x xs z in'))) [
        | inl here ↦
            let after : before x z ≡ true = All-contains (λ y. before x y ≡ true) xs z (AllPairs-first (λ y z. before y z ≡ true) x xs ordered) in' in
            let self : before x z ≡ false = ap (before x) (sym here) ∙ irreflexive x in cc
        | inr there ↦ there
      ]

  pub ascending-unique : (xs ys : List X) → IsAscending before xs → IsAscending before ys → ((z : X) → Contains xs z → Contains ys z) → ((z : X) → Contains ys z → Contains xs z) → xs ≡ ys
  ascending-unique [] [] up_x up_y forth back = refl
  ascending-unique [] (y ∷ ys) up_x up_y forth back = absurd (Contains-nil y (back y (Contains-here y ys)))
  ascending-unique (x ∷ xs) [] up_x up_y forth back = absurd (Contains-nil x (forth x (Contains-here x xs)))
  ascending-unique (x ∷ xs) (y ∷ ys) up_x up_y forth back =
      let same : x ≡ y = one_first x y (is_or_after before x xs up_x y (back y (Contains-here y ys))) (is_or_after before y ys up_y x (forth x (Contains-here x xs))) in
      let there : (z : X) → Contains (x ∷ xs) z → Contains (x ∷ ys) z = λ z in'. subst (λ w. Contains (w ∷ ys) z) (sym same) (forth z in') in
      let here : (z : X) → Contains (x ∷ ys) z → Contains (x ∷ xs) z = λ z in'. back z (subst (λ w. Contains (w ∷ ys) z) same in') in
      let up : IsAscending before (x ∷ ys) = subst (λ w. IsAscending before (w ∷ ys)) (sym same) up_y in
      let rest : xs ≡ ys = ascending-unique xs ys (AllPairs-rest (λ y z. before y z ≡ true) x xs up_x) (AllPairs-rest (λ y z. before y z ≡ true) y ys up_y)
      (later_in x xs ys up_x there) (later_in x ys xs up here) in
      ap₂ (λ z zs. z ∷ zs) same rest
