-- Lists that grow, ranges, and last elements that pass a test.
use Rattle.pgp_group.proofs.Common.{◌≡◌, ℕ, zero, suc, ◌+◌, ◌<◌, List, [], ◌∷◌, ◌++◌, Option, Some, None, Bool, true, false, ◌&&◌, length, map, refl, ap, ap₂, sym, ◌∙◌, arith, append-nil, append_assoc, drop, get_or, take, is_some, ◌⊎◌, All, Contains, cons_option, filter, filter_map, flat_map, last_or, list_any, range_with_len, slice_index_or, find, or_parts, take_more, filter-append, filter_map-append, All-head, All-tail, list_any-append, Contains-nil, Contains-here, Contains-later, Contains-first, Contains-cases, append-contains, last_where}
pub use Rattle.pgp_lists.proofs.Lists.{any-mapped}
pub use Rattle.pgp_lists.proofs.Members.{filter-agree, map-agree}
use Rattle.std.proofs.lemmas.Grind.{common_steps, elements}

-- ---- elements that don't pass

-- where no element passes a test, none passes a narrower one
pub none-narrower : {X : Type 0} (narrow wide : X → Bool) → ((x : X) → narrow x ≡ true → wide x ≡ true) → (xs : List X) → list_any wide xs ≡ false → list_any narrow xs ≡ false
none-narrower narrow wide each [] none = refl
none-narrower narrow wide each (x ∷ xs) none = grind (arith, each x, none-narrower narrow wide each xs)

pub filter-none : {X : Type 0} (test : X → Bool) (xs : List X) → list_any test xs ≡ false → filter test xs ≡ []
filter-none test [] none = refl
filter-none test (x ∷ xs) none = grind (arith, filter-none test xs)

pub filter-fail : {X : Type 0} (test : X → Bool) (xs : List X) → All (λ x. test x ≡ false) xs → filter test xs ≡ []
filter-fail test [] each = refl
filter-fail test (x ∷ xs) each = let here : test x ≡ false = All-head (λ x. test x ≡ false) x xs each in rw here (filter-fail test xs (All-tail (λ x. test x ≡ false) x xs each))

-- the elements that pass two tests
pub filter-both : {X : Type 0} (p q : X → Bool) (xs : List X) → filter (λ x. p x && q x) xs ≡ filter q (filter p xs)
filter-both p q [] = refl
filter-both p q (x ∷ xs) = grind (arith, filter-both p q xs)

pub filter-each : {X : Type 0} (p : X → Bool) (xs : List X) → ((x : X) → Contains xs x → p x ≡ true) → filter p xs ≡ xs
filter-each p [] each = refl
filter-each p (x ∷ xs) each = grind (arith, each x (Contains-here x xs), filter-each p xs (λ y there. each y (Contains-later x xs y there)))

-- ---- lists that grow by one

pub last_or-snoc : {X : Type 0} (o : Option X) (xs : List X) (x : X) → last_or o (xs ++ x ∷ []) ≡ Some x
last_or-snoc o [] x = refl
last_or-snoc o (y ∷ xs) x = last_or-snoc (Some y) xs x

-- where an element passes, the last one that does is the same after whatever came before
pub last_or-any : {X : Type 0} (test : X → Bool) (before other : Option X) (xs : List X) → list_any test xs ≡ true
    → last_or before (filter test xs) ≡ last_or other (filter test xs)
last_or-any test before other [] any = cc
last_or-any test before other (x ∷ xs) any = grind (arith, last_or-any test before other xs)

pub last_where-none : {X : Type 0} (test : X → Bool) (xs ys : List X) → list_any test ys ≡ false → last_where test (xs ++ ys) ≡ last_where test xs
last_where-none test xs ys none = grind (arith, filter-append test xs ys, filter-none test ys none, append-nil (filter test xs))

-- what is kept of a list, with one element more
pub nothing_new : {X Y : Type 0} (f : X → Option Y) (xs : List X) (x : X) → f x ≡ None → filter_map f (xs ++ x ∷ []) ≡ filter_map f xs
nothing_new f xs x none = grind (arith, filter_map-append f xs (x ∷ []), append-nil (filter_map f xs))

pub one_new : {X Y : Type 0} (f : X → Option Y) (xs : List X) (x : X) (y : Y) → f x ≡ Some y → filter_map f (xs ++ x ∷ []) ≡ filter_map f xs ++ y ∷ []
one_new f xs x y is = grind (arith, filter_map-append f xs (x ∷ []))

pub kept_new : {X : Type 0} (test : X → Bool) (xs : List X) (x : X) → test x ≡ true → filter test (xs ++ x ∷ []) ≡ filter test xs ++ x ∷ []
kept_new test xs x passes = grind (arith, filter-append test xs (x ∷ []))

pub left_new : {X : Type 0} (test : X → Bool) (xs : List X) (x : X) → test x ≡ false → filter test (xs ++ x ∷ []) ≡ filter test xs
left_new test xs x fails = grind (arith, filter-append test xs (x ∷ []), append-nil (filter test xs))

-- the last element that passes is the new one, or as before
pub last_where-passes : {X : Type 0} (test : X → Bool) (xs : List X) (x : X) → test x ≡ true → last_where test (xs ++ x ∷ []) ≡ Some x
last_where-passes test xs x passes = ap (last_or None) (kept_new test xs x passes) ∙ last_or-snoc None (filter test xs) x

-- ---- ranges

pub filter_map-agree : {Y : Type 0} (f g : ℕ → Option Y) (a n : ℕ) → ((k : ℕ) → k < a + n → f k ≡ g k) → filter_map f (range_with_len a n) ≡ filter_map g (range_with_len a n)
filter_map-agree f g a zero same = refl
filter_map-agree f g a (suc n) same =
    ap₂ cons_option (same a (omega arith)) (filter_map-agree f g (a + 1) n (λ k below. same k (omega arith)))

-- ---- functions and tests that agree at each element

pub flat_map-agree : {X Y : Type 0} (f g : X → List Y) (xs : List X) → ((x : X) → Contains xs x → f x ≡ g x) → flat_map f xs ≡ flat_map g xs
flat_map-agree f g [] same = refl
flat_map-agree f g (x ∷ xs) same =
    ap₂ (λ l r. l ++ r) (same x (Contains-here x xs)) (flat_map-agree f g xs (λ y there. same y (Contains-later x xs y there)))

pub any-found : {X : Type 0} (test : X → Bool) (xs : List X) → list_any test xs ≡ is_some (find test xs)
any-found test [] = refl
any-found test (x ∷ xs) = grind (arith, any-found test xs)

-- ---- elements of lists that are made of others

pub none-append : {X : Type 0} (test : X → Bool) (xs ys : List X) → list_any test (xs ++ ys) ≡ false → (list_any test xs ≡ false) × (list_any test ys ≡ false)
none-append test xs ys none = or_parts (list_any test xs) (list_any test ys) (sym (list_any-append test xs ys) ∙ none)

pub contains-push : {X : Type 0} (xs : List X) (x y : X) → Contains (xs ++ x ∷ []) y → Contains xs y ⊎ (x ≡ y)
contains-push xs x y there = grind (arith, append-contains xs (x ∷ []) y there)

pub filter_map-from : {X Y : Type 0} (f : X → Option Y) (xs : List X) (y : Y) → Contains (filter_map f xs) y → (x : X) × Contains xs x × (f x ≡ Some y)
filter_map-from f [] y there = absurd (Contains-nil y there)
filter_map-from {X = X} {Y = Y} f (x ∷ xs) y there =
    by_found (f x) refl there (λ later. let from = filter_map-from f xs y later in (from.0, Contains-later x xs from.0 from.1, from.2))
  where
    by_found : (found : Option Y) → f x ≡ found → Contains (cons_option found (filter_map f xs)) y → (Contains (filter_map f xs) y → (z : X) × Contains (x ∷ xs) z × (f z ≡ Some y)) → (z : X) × Contains (x ∷ xs) z × (f z ≡ Some y)
    by_found None is there' later = later there'
    by_found (Some z) is there' later = grind (arith, Contains-cases z (filter_map f xs) y there', Contains-here x xs)

pub filter_map-contains : {X Y : Type 0} (f : X → Option Y) (xs : List X) (y : Y) → Contains (filter_map f xs) y → (x : X) × (f x ≡ Some y)
filter_map-contains f xs y there = let from = filter_map-from f xs y there in (from.0, from.2)

pub index-contains : {X : Type 0} (places : List (Option X)) (k : ℕ) (x : X) → slice_index_or places k None ≡ Some x → Contains places (Some x)
index-contains [] k x is = cc
index-contains (place ∷ places) zero x is = Contains-first place places (Some x) is
index-contains (place ∷ places) (suc k) x is = Contains-later place places (Some x) (index-contains places k x is)

-- ---- parts of a list, up to one more element

pub take-next : {X : Type 0} (xs : List X) (i : ℕ) (x : X) → i < length xs → x ≡ get_or xs i x → take (i + 1) xs ≡ take i xs ++ x ∷ []
take-next xs i x within item = grind (arith, take_more xs i x within)

pub append-next : {X : Type 0} (before xs : List X) (i : ℕ) (x : X) → i < length xs → x ≡ get_or xs i x → before ++ take (i + 1) xs ≡ (before ++ take i xs) ++ x ∷ []
append-next before xs i x within item = ap (λ l. before ++ l) (take-next xs i x within item) ∙ sym (append_assoc before (take i xs) (x ∷ []))

pub filter-passes : {X : Type 0} (test : X → Bool) (xs : List X) (i : ℕ) (x : X) → i < length xs → x ≡ get_or xs i x → test x ≡ true → filter test (take (i + 1) xs) ≡ filter test (take i xs) ++ x ∷ []
filter-passes test xs i x within item passes = ap (filter test) (take-next xs i x within item) ∙ kept_new test (take i xs) x passes

pub filter-fails : {X : Type 0} (test : X → Bool) (xs : List X) (i : ℕ) (x : X) → i < length xs → x ≡ get_or xs i x → test x ≡ false → filter test (take (i + 1) xs) ≡ filter test (take i xs)
filter-fails test xs i x within item fails = ap (filter test) (take-next xs i x within item) ∙ left_new test (take i xs) x fails

-- ---- a list that is written over

-- what is left of a list that is written over is as it was
pub under_way : {X : Type 0} (f : X → X) (xs ys : List X) (i : ℕ) (x : X) → i < length xs → ys ≡ map f (take i xs) ++ drop i xs → get_or ys i x ≡ get_or xs i x
under_way f xs ys i x within so_far = grind (arith, common_steps, elements)
