-- The last log entry of each number.
use Rattle.pgp_compact.proofs.Common.{All-contains, AllPairs, AllPairs-first, AllPairs-rest, AllPairs-weaker, Bool, Contains, Contains-cases, Contains-nil, List, LogEntry, None, Option, Report, Some, [], arith, ascending-unique, by_number, cases_order, cond, exact_unsigned, filter, filter-append, filter-both, filter-none, find, find-some, flat_map, fold, has_number, last_of_each-ordered, last_or, last_or-any, last_or-append, last_where, list_any, nat_cmp, nat_cmp_total, nat_eq, nat_lt, nat_tests, option_and_then, put_in, refl, sym, true, ℕ, ◌&&◌, ◌∷◌, ◌≡◌}
use Rattle.pgp_missing.specs.Log.{number_of}

-- the entry has this number
abbrev pub has : ℕ → LogEntry → Bool
has v entry = nat_eq (number_of entry) v

abbrev below : LogEntry → LogEntry → Bool
below a b = nat_lt (number_of a) (number_of b)

find-put : (acc : List LogEntry) (x : LogEntry) (v : ℕ) → find (has v) (put_in number_of nat_cmp acc x) ≡ cond (has v x) (Some x) (find (has v) acc)
find-put [] x v = refl
find-put (a ∷ acc) x v = grind (arith, nat_tests, exact_unsigned (number_of x) (number_of a), cases_order (number_of x) (number_of a), find-put acc x v)

find-all : (acc xs : List LogEntry) (v : ℕ) → find (has v) (fold (put_in number_of nat_cmp) acc xs) ≡ last_or (find (has v) acc) (filter (has v) xs)
find-all acc [] v = refl
find-all acc (x ∷ xs) v = grind (arith, find-put acc x v, find-all (put_in number_of nat_cmp acc x) xs v)

-- of a list in ascending order of numbers each element is found by its number
found : (xs : List LogEntry) (z : LogEntry) → AllPairs (λ a b. below a b ≡ true) xs → Contains xs z → find (has (number_of z)) xs ≡ Some z
found [] z up there = absurd (Contains-nil z there)
found (x ∷ xs) z up there =
    let first = All-contains (λ b. below x b ≡ true) xs z (AllPairs-first (λ a b. below a b ≡ true) x xs up) in
    grind (arith, nat_tests, Contains-cases x xs z there, first, found xs z (AllPairs-rest (λ a b. below a b ≡ true) x xs up))

ascends : (xs : List LogEntry) → AllPairs (λ a b. below a b ≡ true) (by_number xs)
ascends xs = grind (arith, nat_tests, AllPairs-weaker, last_of_each-ordered number_of nat_cmp nat_cmp_total exact_unsigned xs)

-- both lists have the same last entry of each number
abbrev pub AlikeByNumber : List LogEntry → List LogEntry → Type 0
AlikeByNumber xs ys = (v : ℕ) → last_where (has v) xs ≡ last_where (has v) ys

among : (xs ys : List LogEntry) → AlikeByNumber xs ys → (z : LogEntry) → Contains (by_number xs) z → Contains (by_number ys) z
among xs ys same z there =
    grind (arith, find-some, find-all [] xs, find-all [] ys, same (number_of z), found (by_number xs) z (ascends xs) there)

pub by_number-same : (xs ys : List LogEntry) → AlikeByNumber xs ys → by_number xs ≡ by_number ys
by_number-same xs ys same =
    ascending-unique below (λ x y z. grind (arith, nat_tests)) (λ x. grind (arith, nat_tests)) (by_number xs) (by_number ys) (ascends xs) (ascends ys)
    (among xs ys same) (among ys xs (λ v. sym (same v)))

-- the last that passes of lists in a row is that of the last list with one
pub last-in : {X Y : Type 0} (f : X → List Y) (test : Y → Bool) (before : Option X) (xs : List X)
    → last_or (option_and_then (λ x. last_where test (f x)) before) (filter test (flat_map f xs))
    ≡ option_and_then (λ x. last_where test (f x)) (last_or before (filter (λ x. list_any test (f x)) xs))
last-in f test before [] = refl
last-in f test before (x ∷ xs) =
    grind (arith, filter-append, last_or-append, last_or-any, filter-none, last-in f test before xs, last-in f test (Some x) xs)

-- the log entries of the reports that pass a test
abbrev pub entries_in : (Report → Bool) → List Report → List LogEntry
entries_in passes reports = flat_map (λ report. report.log) (filter passes reports)

-- the last entry of a number is in the last report that passes and has one
pub last-number : (v : ℕ) (passes : Report → Bool) (reports : List Report) → last_where (has v) (entries_in passes reports)
    ≡ option_and_then (λ report. last_where (has v) report.log) (last_or None (filter (λ report. passes report && has_number v report.log) reports))
last-number v passes reports =
    rw (filter-both passes (λ (report : Report). has_number v report.log) reports)
    (last-in (λ (report : Report). report.log) (has v) None (filter passes reports))
