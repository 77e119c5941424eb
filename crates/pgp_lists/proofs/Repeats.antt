-- Lists in which an item is twice, by a test of sameness.
use Rattle.std.proofs.Common.{◌≡◌, ◌<◌, ℕ, ◌+◌, zero, suc, List, [], ◌∷◌, ◌++◌, length, take, get_or, Bool, true, false, not, ◌||◌, cond, refl, ap, sym, ◌∙◌, arith}
use Rattle.std.proofs.lemmas.Bool.Decides.{nat_tests}
use Rattle.std.specs.List.{list_any}
use Rattle.std.proofs.lemmas.List.{take_more}
use Rattle.std.proofs.lemmas.List.Folds.{list_any-append, list_any_more}
use Rattle.pgp_lists.specs.Repeats.{has_repeat}
use Rattle.pgp_lists.proofs.Lists.{any-front}

repeat-more : {X : Type 0} (same : X → X → Bool) (xs : List X) (k : ℕ) → has_repeat same (take k xs) ≡ true → has_repeat same xs ≡ true
repeat-more same [] zero h = h
repeat-more same [] (suc k) h = h
repeat-more same (x ∷ xs) zero h = cc
repeat-more same (x ∷ xs) (suc k) h = grind (arith, nat_tests, h, any-front (same x) xs k, repeat-more same xs k)

has_repeat-push : {X : Type 0} (same : X → X → Bool) → ((x y : X) → same x y ≡ same y x) → (xs : List X) (y : X) → has_repeat same (xs ++ y ∷ []) ≡ (has_repeat same xs || list_any (same y) xs)
has_repeat-push same symm [] y = refl
has_repeat-push same symm (x ∷ xs) y = grind (arith, nat_tests, list_any-append (same x) xs (y ∷ []), has_repeat-push same symm xs y, symm x y)

repeat-step : {X : Type 0} (same : X → X → Bool) → ((x y : X) → same x y ≡ same y x) → (xs : List X) (k : ℕ) (x : X) → k < length xs → x ≡ get_or xs k x →
    has_repeat same (take (k + 1) xs) ≡ (has_repeat same (take k xs) || list_any (same x) (take k xs))
repeat-step {X = X} same symm xs k x h item =
    ap (has_repeat same) (take_more xs k x h ∙ ap (λ (y : X). take k xs ++ y ∷ []) (sym item)) ∙ has_repeat-push same symm (take k xs) x

pub repeat-fresh : {X : Type 0} (same : X → X → Bool) → ((x y : X) → same x y ≡ same y x) → (xs : List X) (k : ℕ) (x : X) (seen new : Bool) → k < length xs → x ≡ get_or xs k x
    → has_repeat same (take k xs) ≡ false → seen ≡ list_any (same x) (take k xs) → new ≡ not seen → new ≡ true → has_repeat same (take (k + 1) xs) ≡ false
repeat-fresh same symm xs k x seen new h item fresh is added e = grind (arith, nat_tests, repeat-step same symm xs k x h item)

pub repeat-found : {X : Type 0} (same : X → X → Bool) → ((x y : X) → same x y ≡ same y x) → (xs : List X) (k : ℕ) (x : X) (seen new : Bool) → k < length xs → x ≡ get_or xs k x
    → seen ≡ list_any (same x) (take k xs) → new ≡ not seen → new ≡ false → has_repeat same xs ≡ true
repeat-found same symm xs k x seen new h item is added e = grind (arith, nat_tests, repeat-step same symm xs k x h item, repeat-more same xs (k + 1))

-- a set of the first k items, after the next one was put in
pub seen-more : {X : Type 0} (same : X → X → Bool) → ((x y : X) → same x y ≡ same y x) → (xs : List X) (k : ℕ) (x q : X) (before now : Bool) → k < length xs → x ≡ get_or xs k x
    → before ≡ list_any (same q) (take k xs) → now ≡ cond (same x q) true before → now ≡ list_any (same q) (take (k + 1) xs)
seen-more same symm xs k x q before now h item is step = grind (arith, nat_tests, symm x q, list_any_more (same q) xs k x h)
