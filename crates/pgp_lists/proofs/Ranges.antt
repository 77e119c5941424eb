-- The numbers from one on, and tests and filters over them.
use Rattle.std.proofs.Common.{◌≡◌, ℕ, zero, suc, ◌+◌, ◌<◌, List, [], ◌∷◌, ◌++◌, Bool, true, false, ◌&&◌, cond, filter, get_or, length, map, refl, ap, ap₂, ◌∙◌, arith, add-one, append-nil}
use Rattle.std.specs.List.{Contains, list_all, list_any, range_with_len}
use Rattle.std.proofs.lemmas.List.{map_push}
use Rattle.std.proofs.lemmas.List.Elements.{filter-append}
use Rattle.std.proofs.lemmas.List.FromFn.{get_or-range_with_len, length-range_with_len}

pub range-contains : (n k : ℕ) → k < n → Contains (range_with_len 0 n) k
range-contains n k below = (k, omega (arith, length-range_with_len 0 n), omega (arith, get_or-range_with_len 0 n k k below))

pub range_with_len-suc : (a n : ℕ) → range_with_len a (suc n) ≡ range_with_len a n ++ (a + n) ∷ []
range_with_len-suc a zero = ap (λ x. x ∷ []) (omega arith)
range_with_len-suc a (suc n) =
    ap (λ xs. a ∷ xs) (range_with_len-suc (a + 1) n ∙ ap (λ x. range_with_len (a + 1) n ++ x ∷ []) (omega arith))

pub range-append : (a n m : ℕ) → range_with_len a (n + m) ≡ range_with_len a n ++ range_with_len (a + n) m
range-append a zero m = ap₂ range_with_len (omega arith) (omega arith)
range-append a (suc n) m =
    let more : suc n + m ≡ suc (n + m) = omega arith in
    let from : (a + 1) + n ≡ a + suc n = omega arith in
    ap (range_with_len a) more
    ∙ ap (λ xs. a ∷ xs) (range-append (a + 1) n m ∙ ap (λ b. range_with_len (a + 1) n ++ range_with_len b m) from)

-- the same numbers, one higher
pub all-range_shifted : (test : ℕ → Bool) (a n : ℕ) → list_all test (range_with_len (suc a) n) ≡ list_all (λ k. test (suc k)) (range_with_len a n)
all-range_shifted test a zero = refl
all-range_shifted test a (suc n) =
    ap (λ from. test (suc a) && list_all test (range_with_len from n)) (omega arith)
    ∙ ap (λ rest. test (suc a) && rest) (all-range_shifted test (a + 1) n)

-- ---- filters, met from below

pub filter_range-suc : (test : ℕ → Bool) (n : ℕ) → filter test (range_with_len 0 (suc n)) ≡ filter test (range_with_len 0 n) ++ cond (test n) (n ∷ []) []
filter_range-suc test n =
    ap (filter test) (range_with_len-suc 0 n ∙ ap (λ x. range_with_len 0 n ++ x ∷ []) (omega arith))
    ∙ filter-append test (range_with_len 0 n) (n ∷ [])

pub filter_range-passes : (test : ℕ → Bool) (n : ℕ) → test n ≡ true → filter test (range_with_len 0 (n + 1)) ≡ filter test (range_with_len 0 n) ++ n ∷ []
filter_range-passes test n passes = grind (arith, add-one n, filter_range-suc test n)

pub filter_range-fails : (test : ℕ → Bool) (n : ℕ) → test n ≡ false → filter test (range_with_len 0 (n + 1)) ≡ filter test (range_with_len 0 n)
filter_range-fails test n fails = grind (arith, add-one n, filter_range-suc test n, append-nil (filter test (range_with_len 0 n)))

pub map_filter_range-passes : {X : Type 0} (f : ℕ → X) (test : ℕ → Bool) (n : ℕ) → test n ≡ true → map f (filter test (range_with_len 0 (n + 1))) ≡ map f (filter test (range_with_len 0 n)) ++ f n ∷ []
map_filter_range-passes f test n passes = ap (map f) (filter_range-passes test n passes) ∙ map_push f (filter test (range_with_len 0 n)) n

pub map_filter_range-fails : {X : Type 0} (f : ℕ → X) (test : ℕ → Bool) (n : ℕ) → test n ≡ false → map f (filter test (range_with_len 0 (n + 1))) ≡ map f (filter test (range_with_len 0 n))
map_filter_range-fails f test n fails = ap (map f) (filter_range-fails test n fails)

-- ---- the elements of a list by their places

pub list_any-range : {X : Type 0} (d : X) (test : ℕ → Bool) (held : X → Bool) (k : ℕ) (xs : List X) →
    ((q : ℕ) → q < length xs → test (k + q) ≡ held (get_or xs q d)) → list_any test (range_with_len k (length xs)) ≡ list_any held xs
list_any-range d test held k [] same = refl
list_any-range d test held k (x ∷ xs) same =
    grind (arith, same 0, list_any-range d test held (k + 1) xs (λ q h. ap test (omega arith) ∙ same (suc q) (omega arith)))
