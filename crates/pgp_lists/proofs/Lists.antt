-- Elements by their places, and tests of lists.
use Rattle.std.proofs.Common.{◌≡◌, ℕ, zero, suc, ◌<◌, List, [], ◌∷◌, ◌++◌, Some, Bool, true, false, ◌||◌, length, ◌==◌, map, take, drop, set, slice_get, append-nil, refl, ap, sym, ◌∙◌, arith}
use Rattle.std.specs.List.{flat_map, list_any}
use Rattle.std.proofs.lemmas.Bool.{or_parts}
use Rattle.std.proofs.lemmas.Bool.Decides.{nat_tests}
use Rattle.std.proofs.lemmas.List.{take_at, take-append-drop}
use Rattle.std.proofs.lemmas.List.Folds.{list_any-append}
use Rattle.std.proofs.lemmas.List.Concat.{flat_map-append}

pub empty-list : {X : Type 0} (xs : List X) → (length xs == 0) ≡ true → xs ≡ []
empty-list [] none = refl
empty-list (x ∷ xs) none = grind (arith, nat_tests)

pub get-append : {X : Type 0} (xs ys : List X) (n : ℕ) → n < length xs → slice_get (xs ++ ys) n ≡ slice_get xs n
get-append [] ys n below = absurd (omega arith)
get-append (x ∷ xs) ys zero below = refl
get-append (x ∷ xs) ys (suc n) below = get-append xs ys n (omega arith)

pub get-last : {X : Type 0} (xs : List X) (x : X) → slice_get (xs ++ x ∷ []) (length xs) ≡ Some x
get-last [] x = refl
get-last (y ∷ xs) x = get-last xs x

pub get-set_same : {X : Type 0} (xs : List X) (n : ℕ) (x : X) → n < length xs → slice_get (set xs n x) n ≡ Some x
get-set_same [] n x below = absurd (omega arith)
get-set_same (y ∷ xs) zero x below = refl
get-set_same (y ∷ xs) (suc n) x below = get-set_same xs n x (omega arith)

pub get-set_other : {X : Type 0} (xs : List X) (n m : ℕ) (x : X) → (m ≡ n → ⊥) → slice_get (set xs n x) m ≡ slice_get xs m
get-set_other [] n m x other = refl
get-set_other (y ∷ xs) zero zero x other = absurd (other refl)
get-set_other (y ∷ xs) zero (suc m) x other = refl
get-set_other (y ∷ xs) (suc n) zero x other = refl
get-set_other (y ∷ xs) (suc n) (suc m) x other = get-set_other xs n m x (λ same. other (ap suc same))

-- the front of a list that another follows
pub take-front : {X : Type 0} (xs ys : List X) → take (length xs) (xs ++ ys) ≡ xs
take-front xs ys = take_at xs ys (length xs) refl

-- the element at a place ends the list up to it
pub get-at : {X : Type 0} (xs : List X) (n : ℕ) → n < length xs → (x : X) × (slice_get xs n ≡ Some x) × (take (suc n) xs ≡ take n xs ++ x ∷ [])
get-at [] n below = absurd (omega arith)
get-at (x ∷ xs) zero below = (x, refl, refl)
get-at (x ∷ xs) (suc n) below = let rest = get-at xs n (omega arith) in (rest.0, rest.1, ap (λ l. x ∷ l) rest.2)

-- tests that say the same of each element say the same of the list
pub any-same : {X : Type 0} (f g : X → Bool) (xs : List X) → ((x : X) → f x ≡ g x) → list_any f xs ≡ list_any g xs
any-same f g [] same = refl
any-same f g (x ∷ xs) same = λ i. same x i || any-same f g xs same i

-- what no element passes, the element at a place doesn't
pub none-at : {X : Type 0} (test : X → Bool) (xs : List X) (n : ℕ) (x : X) → list_any test xs ≡ false → slice_get xs n ≡ Some x → test x ≡ false
none-at test [] n x none is = cc
none-at test (y ∷ xs) zero x none is = let same : y ≡ x = cc in let parts = or_parts (test y) (list_any test xs) none in ap test (sym same) ∙ parts.0
none-at test (y ∷ xs) (suc n) x none is = none-at test xs n x (or_parts (test y) (list_any test xs) none).1 is

-- and what the element at each place doesn't pass, none does
pub none-each : {X : Type 0} (test : X → Bool) (xs : List X) → ((n : ℕ) (x : X) → slice_get xs n ≡ Some x → test x ≡ false) → list_any test xs ≡ false
none-each test [] each = refl
none-each test (x ∷ xs) each = rw (each 0 x refl) (none-each test xs (λ n y at. each (suc n) y at))

-- a test of a list that is seen through a map
pub any-mapped : {X Y : Type 0} (f : X → Y) (test : Y → Bool) (xs : List X) → list_any test (map f xs) ≡ list_any (λ x. test (f x)) xs
any-mapped f test [] = refl
any-mapped f test (x ∷ xs) = ap (λ rest. test (f x) || rest) (any-mapped f test xs)

-- an element of the front passes the test
pub any-front : {X : Type 0} (test : X → Bool) (xs : List X) (n : ℕ) → list_any test (take n xs) ≡ true → list_any test xs ≡ true
any-front {X = X} test xs n some =
    ap (list_any test) (sym (take-append-drop n xs)) ∙ list_any-append test (take n xs) (drop n xs) ∙ rw some refl

pub flat_map-push : {X Y : Type 0} (f : X → List Y) (xs : List X) (x : X) → flat_map f (xs ++ x ∷ []) ≡ flat_map f xs ++ f x
flat_map-push f xs x = flat_map-append f xs (x ∷ []) ∙ ap (λ last. flat_map f xs ++ last) (append-nil (f x))
