-- The names of the elements that pass a test, as one of the elements comes to fail it.
use Rattle.pgp_shard.proofs.Common.{◌≡◌, ℕ, zero, suc, ◌+◌, ◌<◌, ◌≤◌, List, [], ◌∷◌, ◌++◌, Bool, true, false, not, ◌&&◌, Some, map, length, take, drop, set, slice_get, append-nil, length-append, refl, sym, ap, ◌∙◌, arith, filter, list_any, cases_Bool, or_parts, nat_tests, map-append, drop-append-le, filter-append, filter_more, get_or_from_slice_get, slice_get_within, has_repeat}
use Rattle.std.proofs.Math.ListN.{drop_of_length-le}

-- a name of one that passes, found from the elements
pub any-passing : {X Y : Type 0} (m : X → Bool) (f : X → Y) (q : Y → Bool) (xs : List X) → list_any q (map f (filter m xs)) ≡ list_any (λ x. m x && q (f x)) xs
any-passing m f q [] = refl
any-passing m f q (x ∷ xs) = grind (arith, nat_tests, any-passing m f q xs, cases_Bool (m x))

-- none of them has such a name
pub all-other : {X Y : Type 0} (m : X → Bool) (f : X → Y) (q : Y → Bool) (xs : List X) → ((j : ℕ) (x : X) → slice_get xs j ≡ Some x → q (f x) ≡ false)
    → map f (filter m xs) ≡ filter (λ y. not (q y)) (map f (filter m xs))
all-other m f q [] other = refl
all-other m f q (x ∷ xs) other = grind (arith, nat_tests, other 0 x refl, all-other m f q xs (λ j y is. other (suc j) y is), cases_Bool (m x))

-- the one at this place, which alone has such a name, fails the test now
pub unmarked : {X Y : Type 0} (m : X → Bool) (f : X → Y) (q : Y → Bool) (xs : List X) (i : ℕ) (old after : X) → slice_get xs i ≡ Some old → q (f old) ≡ true → m after ≡ false
    → ((j : ℕ) (x : X) → (j ≡ i → ⊥) → slice_get xs j ≡ Some x → q (f x) ≡ false)
    → map f (filter m (set xs i after)) ≡ filter (λ y. not (q y)) (map f (filter m xs))
unmarked m f q [] i old after is name fails other = cc
unmarked m f q (x ∷ xs) zero old after is name fails other =
    let same : x ≡ old = cc in
    let first : q (f x) ≡ true = ap (λ z. q (f z)) same ∙ name in
    let rest = all-other m f q xs (λ j y there. other (suc j) y (λ e. absurd (omega (arith, e))) there) in
    grind (arith, nat_tests, fails, first, rest, cases_Bool (m x))
unmarked m f q (x ∷ xs) (suc i) old after is name fails other =
    let rest = unmarked m f q xs i old after is name fails (λ j y differs there. other (suc j) y (λ e. differs (omega (arith, e))) there) in
    grind (arith, nat_tests, rest, other 0 x (λ e. absurd (omega (arith, e))) refl, cases_Bool (m x))

-- ---- up to a place

pub front-passes : {X Y : Type 0} (m : X → Bool) (f : X → Y) (xs : List X) (i : ℕ) (x : X) → slice_get xs i ≡ Some x → m x ≡ true
    → map f (filter m (take (i + 1) xs)) ≡ map f (filter m (take i xs)) ++ f x ∷ []
front-passes m f xs i x at passes =
    ap (map f) (filter_more m xs i x (slice_get_within xs i x at) ∙ rw (get_or_from_slice_get xs i x x at) (rw passes refl))
    ∙ map-append f (filter m (take i xs)) (x ∷ [])

pub front-fails : {X Y : Type 0} (m : X → Bool) (f : X → Y) (xs : List X) (i : ℕ) (x : X) → slice_get xs i ≡ Some x → m x ≡ false
    → map f (filter m (take (i + 1) xs)) ≡ map f (filter m (take i xs))
front-fails m f xs i x at fails =
    ap (map f) (filter_more m xs i x (slice_get_within xs i x at) ∙ rw (get_or_from_slice_get xs i x x at) (rw fails (append-nil (filter m (take i xs)))))

-- dropping some of a list with one more
pub drop-more : {X : Type 0} (n : ℕ) (xs : List X) (x : X) → n ≤ length xs → drop n (xs ++ x ∷ []) ≡ drop n xs ++ x ∷ []
drop-more n xs x few = drop-append-le n xs (x ∷ []) few

pub drop-few : {X : Type 0} (n : ℕ) (xs : List X) (x : X) → length xs < n → drop n (xs ++ x ∷ []) ≡ drop n xs
drop-few n xs x many =
    drop_of_length-le (xs ++ x ∷ []) (omega (arith, many, length-append xs (x ∷ []))) ∙ sym (drop_of_length-le xs (omega (arith, many)))

-- one more, which fails
pub passing-fails : {X Y : Type 0} (m : X → Bool) (f : X → Y) (xs : List X) (x : X) → m x ≡ false → map f (filter m (xs ++ x ∷ [])) ≡ map f (filter m xs)
passing-fails m f xs x fails = ap (map f) (filter-append m xs (x ∷ []) ∙ rw fails (append-nil (filter m xs)))

-- ---- each name once

-- a name that none has, none of those that pass has
pub none-passing : {X Y : Type 0} (m : X → Bool) (f : X → Y) (q : Y → Bool) (xs : List X) → list_any q (map f xs) ≡ false → list_any q (map f (filter m xs)) ≡ false
none-passing m f q [] none = refl
none-passing m f q (x ∷ xs) none =
    let parts = or_parts (q (f x)) (list_any q (map f xs)) none in
    grind (arith, nat_tests, parts.0, none-passing m f q xs parts.1, cases_Bool (m x))

-- where no name is twice in the list, none is among those that pass
pub passing-once : {X Y : Type 0} (m : X → Bool) (f : X → Y) (same : Y → Y → Bool) (xs : List X) → has_repeat same (map f xs) ≡ false → has_repeat same (map f (filter m xs)) ≡ false
passing-once m f same [] once = refl
passing-once m f same (x ∷ xs) once =
    let parts = or_parts (list_any (same (f x)) (map f xs)) (has_repeat same (map f xs)) once in
    grind (arith, nat_tests, passing-once m f same xs parts.1, none-passing m f (same (f x)) xs parts.0, cases_Bool (m x))
