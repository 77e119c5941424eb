-- Lists whose elements came one after another, each taken by those before it.
use Rattle.std.proofs.Common.{◌≡◌, ℕ, List, [], ◌∷◌, ◌++◌, Bool, true, ◌&&◌, length, take, drop, refl, ap, sym, ◌∙◌, subst, append-nil, append_assoc, arith}
use Rattle.std.proofs.Math.Bool.{and-true}
use Rattle.std.proofs.lemmas.Bool.Decides.{nat_tests}
use Rattle.std.proofs.lemmas.Bool.{and_parts, and_from}
use Rattle.std.proofs.lemmas.List.{take-append-drop}
use Rattle.pgp_lists.specs.Taken.{is_taken_at, are_taken}
use Rattle.pgp_lists.proofs.Ranges.{all-range_shifted}

-- the first element is taken by the empty list, and the others by those before them
pub taken-cons : {X : Type 0} (takes : List X → X → Bool) (x : X) (xs : List X) → are_taken takes (x ∷ xs) ≡ (takes [] x && are_taken (λ before. takes (x ∷ before)) xs)
taken-cons takes x xs = ap (λ rest. takes [] x && rest) (all-range_shifted (is_taken_at takes (x ∷ xs)) 0 (length xs))

-- a list in two parts: the front is taken, and each later element by the front and those between
pub taken-append : {X : Type 0} (takes : List X → X → Bool) (xs ys : List X) → are_taken takes (xs ++ ys) ≡ (are_taken takes xs && are_taken (λ before. takes (xs ++ before)) ys)
taken-append takes [] ys = refl
taken-append takes (x ∷ xs) ys =
    grind (arith, nat_tests, taken-cons takes x (xs ++ ys), taken-append (λ before. takes (x ∷ before)) xs ys, taken-cons takes x xs)

-- one element more
pub taken-push : {X : Type 0} (takes : List X → X → Bool) (xs : List X) (x : X) → are_taken takes (xs ++ x ∷ []) ≡ (are_taken takes xs && takes xs x)
taken-push takes xs x =
    taken-append takes xs (x ∷ [])
    ∙ ap (λ last. are_taken takes xs && last) (and-true (takes (xs ++ []) x) ∙ ap (λ before. takes before x) (append-nil xs))

pub taken-front : {X : Type 0} (takes : List X → X → Bool) (xs ys : List X) → are_taken takes (xs ++ ys) ≡ true → are_taken takes xs ≡ true
taken-front takes xs ys taken = (and_parts (are_taken takes xs) _ (sym (taken-append takes xs ys) ∙ taken)).0

pub taken-last : {X : Type 0} (takes : List X → X → Bool) (xs : List X) (x : X) → are_taken takes (xs ++ x ∷ []) ≡ true → takes xs x ≡ true
taken-last takes xs x taken = (and_parts (are_taken takes xs) _ (sym (taken-push takes xs x) ∙ taken)).1

pub taken-more : {X : Type 0} (takes : List X → X → Bool) (xs : List X) (x : X) → are_taken takes xs ≡ true → takes xs x ≡ true → are_taken takes (xs ++ x ∷ []) ≡ true
taken-more takes xs x before last = taken-push takes xs x ∙ and_from (are_taken takes xs) (takes xs x) before last

-- the first n elements
pub taken-take : {X : Type 0} (takes : List X → X → Bool) (n : ℕ) (xs : List X) → are_taken takes xs ≡ true → are_taken takes (take n xs) ≡ true
taken-take takes n xs taken = taken-front takes (take n xs) (drop n xs) (ap (are_taken takes) (take-append-drop n xs) ∙ taken)

-- ---- induction

-- what holds of a front and goes on with each element that is taken holds of the whole
pub taken-along : {X : Type 0} (takes : List X → X → Bool) (P : List X → Type 0)
    → ((xs : List X) (x : X) → are_taken takes xs ≡ true → takes xs x ≡ true → P xs → P (xs ++ x ∷ []))
    → (front rest : List X) → are_taken takes (front ++ rest) ≡ true → P front → P (front ++ rest)
taken-along takes P step front [] taken here = subst P (sym (append-nil front)) here
taken-along takes P step front (x ∷ rest) taken here =
    let join : (front ++ x ∷ []) ++ rest ≡ front ++ x ∷ rest = append_assoc front (x ∷ []) rest in
    let whole : are_taken takes ((front ++ x ∷ []) ++ rest) ≡ true = ap (are_taken takes) join ∙ taken in
    let next : are_taken takes (front ++ x ∷ []) ≡ true = taken-front takes (front ++ x ∷ []) rest whole in
    subst P join (taken-along takes P step (front ++ x ∷ []) rest whole
    (step front x (taken-front takes front (x ∷ []) next) (taken-last takes front x next) here))

-- what holds of the empty list and goes on with each element that is taken holds of the whole
pub taken-induction : {X : Type 0} (takes : List X → X → Bool) (P : List X → Type 0) → P []
    → ((xs : List X) (x : X) → are_taken takes xs ≡ true → takes xs x ≡ true → P xs → P (xs ++ x ∷ []))
    → (xs : List X) → are_taken takes xs ≡ true → P xs
taken-induction takes P none step xs taken = taken-along takes P step [] xs taken none
