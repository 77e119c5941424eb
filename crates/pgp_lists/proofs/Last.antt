-- The last element that passes a test, of lists that grow.
use Rattle.std.proofs.Common.{◌≡◌, ◌⊎◌, ◌<◌, ℕ, ◌+◌, List, [], ◌∷◌, ◌++◌, length, take, get_or, Bool, true, false, ◌||◌, cond, Option, Some, None, is_some, filter, refl, ap, sym, ◌∙◌, inl, inr, arith}
use Rattle.std.specs.List.{Contains, last_or, list_any}
use Rattle.std.proofs.Math.Bool.{or-true}
use Rattle.std.proofs.lemmas.Bool.{cases_Bool}
use Rattle.std.proofs.lemmas.List.{take_more}
use Rattle.std.proofs.lemmas.List.Elements.{filter-append}
use Rattle.std.proofs.lemmas.Option.{same_Some, none-some}
use Rattle.pgp_lists.specs.Last.{last_where}
use Rattle.pgp_lists.proofs.Members.{Contains-first, Contains-later, none-contains}

pub last_or-append : {X : Type 0} (o : Option X) (xs ys : List X) → last_or o (xs ++ ys) ≡ last_or (last_or o xs) ys
last_or-append o [] ys = refl
last_or-append o (x ∷ xs) ys = last_or-append (Some x) xs ys

pub last_where-append : {X : Type 0} (test : X → Bool) (xs ys : List X) → last_where test (xs ++ ys) ≡ last_or (last_where test xs) (filter test ys)
last_where-append test xs ys = ap (last_or None) (filter-append test xs ys) ∙ last_or-append None (filter test xs) (filter test ys)

pub last_where-push : {X : Type 0} (test : X → Bool) (xs : List X) (x : X) → last_where test (xs ++ x ∷ []) ≡ cond (test x) (Some x) (last_where test xs)
last_where-push test xs x = grind (arith, cases_Bool (test x), last_where-append test xs (x ∷ []))

pub last_where_more : {X : Type 0} (test : X → Bool) (xs : List X) (i : ℕ) (x : X) → i < length xs → x ≡ get_or xs i x
    → last_where test (take (i + 1) xs) ≡ cond (test x) (Some x) (last_where test (take i xs))
last_where_more {X = X} test xs i x within item =
    ap (last_where test) (take_more xs i x within ∙ ap (λ (y : X). take i xs ++ y ∷ []) (sym item)) ∙ last_where-push test (take i xs) x

-- the last of the first i elements that pass a test, after the next one, x, was looked at
pub found_more : {X : Type 0} (test : X → Bool) (xs : List X) (i : ℕ) (x : X) (now next : Option X) → i < length xs → x ≡ get_or xs i x
    → now ≡ last_where test (take i xs) → next ≡ cond (test x) (Some x) now → next ≡ last_where test (take (i + 1) xs)
found_more {X = X} test xs i x now next within item is step =
    step ∙ ap (λ (o : Option X). cond (test x) (Some x) o) is ∙ sym (last_where_more test xs i x within item)

-- ---- what is found

last_or-some : {X : Type 0} (test : X → Bool) (o : Option X) (xs : List X) → is_some (last_or o (filter test xs)) ≡ (is_some o || list_any test xs)
last_or-some test None [] = refl
last_or-some test (Some y) [] = refl
last_or-some test o (x ∷ xs) =
    grind (arith, cases_Bool (test x), last_or-some test (Some x) xs, last_or-some test o xs, or-true (is_some o))

-- an element is found where one passes
pub last_where-some : {X : Type 0} (test : X → Bool) (xs : List X) → is_some (last_where test xs) ≡ list_any test xs
last_where-some test xs = last_or-some test None xs

last_or-found : {X : Type 0} (test : X → Bool) (o : Option X) (xs : List X) (x : X) → last_or o (filter test xs) ≡ Some x → (o ≡ Some x) ⊎ (Contains xs x × (test x ≡ true))
last_or-found test o [] x found = inl found
last_or-found test o (y ∷ xs) x found = elim (cases_Bool (test y)) [
  | inl passes ↦ elim (last_or-found test (Some y) xs x (rw passes at found)) [
    | inl here ↦ let same : y ≡ x = same_Some y x here in inr (Contains-first y xs x same, ap test (sym same) ∙ passes)
    | inr later ↦ inr (Contains-later y xs x later.0, later.1)
  ]
  | inr fails ↦ elim (last_or-found test o xs x (rw fails at found)) [
    | inl before ↦ inl before
    | inr later ↦ inr (Contains-later y xs x later.0, later.1)
  ]
]

-- what is found is in the list and passes the test
pub last_where-found : {X : Type 0} (test : X → Bool) (xs : List X) (x : X) → last_where test xs ≡ Some x → Contains xs x × (test x ≡ true)
last_where-found test xs x found = elim (last_or-found test None xs x found) [
  | inl nothing ↦ absurd (none-some x nothing)
  | inr is ↦ is
]

-- and fails another test that no element passes
pub last_found : {X : Type 0} (bad test : X → Bool) (xs : List X) (x : X) → list_any bad xs ≡ false → last_where test xs ≡ Some x → (test x ≡ true) × (bad x ≡ false)
last_found bad test xs x none found =
    let is = last_where-found test xs x found in
    (is.1, none-contains bad xs x none is.0)
