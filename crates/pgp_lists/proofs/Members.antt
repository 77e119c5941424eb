-- What stands in lists that are put together, filtered, mapped or searched.
use Rattle.std.proofs.Common.{◌≡◌, ◌⊎◌, ℕ, zero, suc, ◌<◌, List, [], ◌∷◌, ◌++◌, Bool, true, false, ◌||◌, cond, length, map, Some, None, refl, ap, ap₂, sym, ◌∙◌, subst, inl, inr, arith}
use Rattle.std.specs.List.{All, Contains, filter, find, flat_map, list_any, slice_index_or}
use Rattle.std.proofs.lemmas.Bool.{cases_Bool}
use Rattle.std.proofs.lemmas.List.Elements.{All-contains_itself, All-weaker, Contains-append_cases, Contains-append_left, Contains-append_right}

pub Contains-nil : {X : Type 0} (y : X) → Contains [] y → ⊥
Contains-nil y in' = let below : in'.0 < 0 = in'.1 in omega arith

pub Contains-here : {X : Type 0} (x : X) (xs : List X) → Contains (x ∷ xs) x
Contains-here x xs = (0, omega arith, refl)

pub Contains-later : {X : Type 0} (x : X) (xs : List X) (y : X) → Contains xs y → Contains (x ∷ xs) y
Contains-later x xs y in' = (suc in'.0, omega arith, in'.2)

pub Contains-first : {X : Type 0} (x : X) (xs : List X) (y : X) → x ≡ y → Contains (x ∷ xs) y
Contains-first x xs y same = subst (Contains (x ∷ xs)) same (Contains-here x xs)

Contains-at : {X : Type 0} (x : X) (xs : List X) (y : X) (k : ℕ) → k < suc (length xs) → slice_index_or (x ∷ xs) k y ≡ y → (x ≡ y) ⊎ Contains xs y
Contains-at x xs y zero below is = inl is
Contains-at x xs y (suc k) below is = inr (k, omega arith, is)

pub Contains-cases : {X : Type 0} (x : X) (xs : List X) (y : X) → Contains (x ∷ xs) y → (x ≡ y) ⊎ Contains xs y
Contains-cases x xs y in' = Contains-at x xs y in'.0 in'.1 in'.2

-- what holds of whatever stands in a list holds of each of its elements
pub All-members : {X : Type 0} (P : X → Type 0) (xs : List X) → ((x : X) → Contains xs x → P x) → All P xs
All-members P xs each = All-weaker (Contains xs) P each xs (All-contains_itself xs)

-- ---- two lists in a row

pub append-contains : {X : Type 0} (xs ys : List X) (z : X) → Contains (xs ++ ys) z → Contains xs z ⊎ Contains ys z
append-contains xs ys z in' = Contains-append_cases xs ys z in'

pub contains-append : {X : Type 0} (xs ys : List X) (z : X) → Contains xs z ⊎ Contains ys z → Contains (xs ++ ys) z
contains-append xs ys z (inl left) = Contains-append_left xs ys z left
contains-append xs ys z (inr right) = Contains-append_right xs ys z right

-- ---- filters

pub filter-contains : {X : Type 0} (test : X → Bool) (xs : List X) (y : X) → Contains (filter test xs) y → Contains xs y × (test y ≡ true)
filter-contains test [] y in' = absurd (Contains-nil y in')
filter-contains test (x ∷ xs) y in' = elim (cases_Bool (test x)) [
  | inl passes ↦ elim (Contains-cases x (filter test xs) y (rw passes at in')) [
    | inl here ↦ (Contains-first x xs y here, ap test (sym here) ∙ passes)
    | inr later ↦ let rest = filter-contains test xs y later in (Contains-later x xs y rest.0, rest.1)
  ]
  | inr fails ↦ let rest = filter-contains test xs y (rw fails at in') in (Contains-later x xs y rest.0, rest.1)
]

pub contains-filter : {X : Type 0} (test : X → Bool) (xs : List X) (y : X) → Contains xs y → test y ≡ true → Contains (filter test xs) y
contains-filter test [] y in' passes = absurd (Contains-nil y in')
contains-filter test (x ∷ xs) y in' passes =
    elim (Contains-cases x xs y in') [
      | inl here ↦ let first : test x ≡ true = ap test here ∙ passes in rw first (Contains-first x (filter test xs) y here)
      | inr later ↦
          let rest = contains-filter test xs y later passes in
          elim (cases_Bool (test x)) [ inl also ↦ rw also (Contains-later x (filter test xs) y rest) | inr fails ↦ rw fails rest ]
    ]

-- tests that agree at each element keep the same elements
pub filter-agree : {X : Type 0} (f g : X → Bool) (xs : List X) → ((x : X) → Contains xs x → f x ≡ g x) → filter f xs ≡ filter g xs
filter-agree {X = X} f g [] same = refl
filter-agree {X = X} f g (x ∷ xs) same =
    ap₂ (λ (b : Bool) (l : List X). cond b (x ∷ l) l) (same x (Contains-here x xs)) (filter-agree f g xs (λ y there. same y (Contains-later x xs y there)))

-- ---- maps

-- functions that agree at each element
pub map-agree : {X Y : Type 0} (f g : X → Y) (xs : List X) → ((x : X) → Contains xs x → f x ≡ g x) → map f xs ≡ map g xs
map-agree f g [] same = refl
map-agree f g (x ∷ xs) same =
    ap₂ (λ y ys. y ∷ ys) (same x (Contains-here x xs)) (map-agree f g xs (λ y there. same y (Contains-later x xs y there)))

pub map-contains : {X Y : Type 0} (f : X → Y) (xs : List X) (y : Y) → Contains (map f xs) y → (x : X) × (Contains xs x × (f x ≡ y))
map-contains f [] y in' = absurd (Contains-nil y in')
map-contains f (x ∷ xs) y in' =
    elim (Contains-cases (f x) (map f xs) y in') [
      | inl here ↦ (x, (Contains-here x xs, here))
      | inr later ↦ let rest = map-contains f xs y later in (rest.0, (Contains-later x xs rest.0 rest.1.0, rest.1.1))
    ]

pub contains-map : {X Y : Type 0} (f : X → Y) (xs : List X) (x : X) → Contains xs x → Contains (map f xs) (f x)
contains-map f [] x in' = absurd (Contains-nil x in')
contains-map f (z ∷ xs) x in' =
    elim (Contains-cases z xs x in') [
      | inl here ↦ Contains-first (f z) (map f xs) (f x) (ap f here)
      | inr later ↦ Contains-later (f z) (map f xs) (f x) (contains-map f xs x later)
    ]

pub flat_map-contains : {X Y : Type 0} (f : X → List Y) (xs : List X) (y : Y) → Contains (flat_map f xs) y → (x : X) × (Contains xs x × Contains (f x) y)
flat_map-contains f [] y in' = absurd (Contains-nil y in')
flat_map-contains f (x ∷ xs) y in' =
    elim (Contains-append_cases (f x) (flat_map f xs) y in') [
      | inl here ↦ (x, (Contains-here x xs, here))
      | inr later ↦ let rest = flat_map-contains f xs y later in (rest.0, (Contains-later x xs rest.0 rest.1.0, rest.1.1))
    ]

pub contains-flat_map : {X Y : Type 0} (f : X → List Y) (xs : List X) (x : X) (y : Y) → Contains xs x → Contains (f x) y → Contains (flat_map f xs) y
contains-flat_map f [] x y in' here = absurd (Contains-nil x in')
contains-flat_map f (z ∷ xs) x y in' here =
    elim (Contains-cases z xs x in') [
      | inl first ↦ Contains-append_left (f z) (flat_map f xs) y (subst (λ w. Contains (f w) y) (sym first) here)
      | inr later ↦ Contains-append_right (f z) (flat_map f xs) y (contains-flat_map f xs x y later here)
    ]

-- ---- tests of some element

pub any-agree : {X : Type 0} (f g : X → Bool) (xs : List X) → ((x : X) → Contains xs x → f x ≡ g x) → list_any f xs ≡ list_any g xs
any-agree f g [] same = refl
any-agree f g (x ∷ xs) same = ap₂ (λ a b. a || b) (same x (Contains-here x xs)) (any-agree f g xs (λ y there. same y (Contains-later x xs y there)))

pub any-contains : {X : Type 0} (test : X → Bool) (xs : List X) → list_any test xs ≡ true → (x : X) × (Contains xs x × (test x ≡ true))
any-contains test [] some = cc
any-contains test (x ∷ xs) some = elim (cases_Bool (test x)) [
  | inl passes ↦ (x, (Contains-here x xs, passes))
  | inr fails ↦
      let later : list_any test xs ≡ true = rw fails at some in
      let rest = any-contains test xs later in (rest.0, (Contains-later x xs rest.0 rest.1.0, rest.1.1))
]

pub contains-any : {X : Type 0} (test : X → Bool) (xs : List X) (x : X) → Contains xs x → test x ≡ true → list_any test xs ≡ true
contains-any test [] x in' passes = absurd (Contains-nil x in')
contains-any test (z ∷ xs) x in' passes = grind (arith, cases_Bool (test z), Contains-cases z xs x in', contains-any test xs x)

-- what no element passes, none that stands in the list does
pub none-contains : {X : Type 0} (test : X → Bool) (xs : List X) (x : X) → list_any test xs ≡ false → Contains xs x → test x ≡ false
none-contains test xs x none in' = grind (arith, cases_Bool (test x), contains-any test xs x in')

-- ---- searches

-- what a search finds is in the list and passes the test
pub find-some : {X : Type 0} (test : X → Bool) (xs : List X) (y : X) → find test xs ≡ Some y → Contains xs y × (test y ≡ true)
find-some test [] y found = cc
find-some test (x ∷ xs) y found = elim (cases_Bool (test x)) [
  | inl passes ↦ let first : Some x ≡ Some y = rw passes at found in let same : x ≡ y = cc in (Contains-first x xs y same, ap test (sym same) ∙ passes)
  | inr fails ↦ let rest = find-some test xs y (rw fails at found) in (Contains-later x xs y rest.0, rest.1)
]

-- a search that finds nothing met no element that passes the test
pub find-none : {X : Type 0} (test : X → Bool) (xs : List X) (y : X) → find test xs ≡ None → Contains xs y → test y ≡ false
find-none test [] y missed in' = absurd (Contains-nil y in')
find-none test (x ∷ xs) y missed in' = grind (arith, cases_Bool (test x), Contains-cases x xs y in', find-none test xs y)
