-- Logs whose entries have other owners too: each element of a list stands for an entry.
use Rattle.pgp_log.proofs.Common.{◌≡◌, ℕ, ◌+◌, ◌<◌, List, [], ◌∷◌, ◌++◌, None, Result, Ok, Err, OnOk, true, length, map, take, drop, get_or, ap, sym, ◌∙◌, arith, append_assoc, map-append, map_more, take-append-drop, take_all, Entry, fits, is_close, is_closed, is_legal}
pub use Rattle.pgp_lists.proofs.Results.{on_err}
use Rattle.pgp_log.proofs.LogLemmas.{front-legal, legal-last}
use Rattle.pgp_log.proofs.TakeLemmas.{closed-push, fits-open_log}

pub map-next : {X : Type 0} (f : X → Entry) (xs : List X) (i : ℕ) (x : X) → i < length xs → x ≡ get_or xs i x
    → map f (take (i + 1) xs) ≡ map f (take i xs) ++ f x ∷ []
map-next {X = X} f xs i x within item = map_more f xs i x within ∙ ap (λ (y : X). map f (take i xs) ++ f y ∷ []) (sym item)

-- the entries up to this one, and the others
pub next-front : {X : Type 0} (f : X → Entry) (xs : List X) (i : ℕ) (x : X) → i < length xs → x ≡ get_or xs i x
    → map f xs ≡ (map f (take i xs) ++ f x ∷ []) ++ map f (drop (i + 1) xs)
next-front f xs i x within item =
    ap (map f) (sym (take-append-drop (i + 1) xs)) ∙ map-append f (take (i + 1) xs) (drop (i + 1) xs)
    ∙ ap (λ l. l ++ map f (drop (i + 1) xs)) (map-next f xs i x within item)

-- the same after a front
pub next-after : {X : Type 0} (front : List Entry) (f : X → Entry) (xs : List X) (i : ℕ) (x : X) → i < length xs → x ≡ get_or xs i x
    → front ++ map f (take (i + 1) xs) ≡ (front ++ map f (take i xs)) ++ f x ∷ []
next-after front f xs i x within item =
    ap (λ l. front ++ l) (map-next f xs i x within item) ∙ sym (append_assoc front (map f (take i xs)) (f x ∷ []))

-- the next entry of a legal log fits
pub next-of-legal : {X : Type 0} (front : List Entry) (f : X → Entry) (xs : List X) (i : ℕ) (x : X) → is_legal (front ++ map f xs) ≡ true
    → i < length xs → x ≡ get_or xs i x → fits (front ++ map f (take i xs)) (f x) ≡ None
next-of-legal front f xs i x legal within item =
    let parts : map f (take (i + 1) xs) ++ map f (drop (i + 1) xs) ≡ map f xs = sym (map-append f (take (i + 1) xs) (drop (i + 1) xs)) ∙ ap (map f) (take-append-drop (i + 1) xs) in
    let whole : is_legal ((front ++ map f (take (i + 1) xs)) ++ map f (drop (i + 1) xs)) ≡ true =
    ap is_legal (append_assoc front (map f (take (i + 1) xs)) (map f (drop (i + 1) xs)) ∙ ap (λ l. front ++ l) parts) ∙ legal in
    legal-last (front ++ map f (take i xs)) (f x)
    (ap is_legal (sym (next-after front f xs i x within item)) ∙ front-legal (front ++ map f (take (i + 1) xs)) (map f (drop (i + 1) xs)) whole)

-- whether a legal log was closed, by its last entry
pub closed-by-last : {X : Type 0} (f : X → Entry) (xs : List X) (i : ℕ) (x : X) → is_legal (map f xs) ≡ true → length xs ≡ i + 1
    → x ≡ get_or xs i x → is_closed (map f xs) ≡ is_close (f x)
closed-by-last f xs i x legal last item =
    let within : i < length xs = omega (arith, last) in
    let parts : map f xs ≡ map f (take i xs) ++ f x ∷ [] = ap (map f) (sym (take_all (i + 1) xs (omega (arith, last)))) ∙ map-next f xs i x within item in
    let fit : fits (map f (take i xs)) (f x) ≡ None = legal-last (map f (take i xs)) (f x) (ap is_legal (sym parts) ∙ legal) in
    ap is_closed parts ∙ closed-push (map f (take i xs)) (f x) (fits-open_log (map f (take i xs)) (f x) fit)

-- what follows from two facts that hold where a call succeeds holds there
pub ok-two : {T E : Type 0} (r : Result T E) (P Q R : Type 0) → (P → Q → R) → OnOk r P → OnOk r Q → OnOk r R
ok-two (Ok x) P Q R goes one two = goes one two
ok-two (Err e) P Q R goes one two = tt
