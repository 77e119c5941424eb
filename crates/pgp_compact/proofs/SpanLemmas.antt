-- What holds of intervals that lie one after another.
use Rattle.pgp_compact.proofs.Common.{Bool, List, None, Some, Span, [], arith, cases_Bool, false, find, is_in_span, list_any, nat_eq, nat_tests, option_map_or, refl, same_Some, true, ℕ, ◌&&◌, ◌++◌, ◌+◌, ◌<◌, ◌∷◌, ◌≡◌, ◌≤◌}

-- none begins before this epoch or ends before it began, and each begins after the one before it ended
abbrev pub LieApart : ℕ → List Span → Type 0
LieApart from [] = Unit {0}
LieApart from (span ∷ spans) = (from ≤ span.first) × (span.first ≤ span.last) × LieApart (span.last + 1) spans

-- from an earlier epoch on too
pub apart-lower : (low from : ℕ) (spans : List Span) → low ≤ from → LieApart from spans → LieApart low spans
apart-lower low from [] below apart = tt
apart-lower low from (span ∷ spans) below apart = (omega (arith, apart.0), apart.1, apart.2)

-- ---- which of them holds an epoch

-- an epoch before all of them is in none
none-holds : (from epoch : ℕ) (spans : List Span) → LieApart from spans → epoch < from → find (is_in_span epoch) spans ≡ None
none-holds from epoch [] apart early = refl
none-holds from epoch (span ∷ spans) apart early =
    grind (arith, nat_tests, apart.0, none-holds (span.last + 1) epoch spans apart.2 (omega (arith, apart.0, apart.1)))

none-passes : (from epoch : ℕ) (test : Span → Bool) (spans : List Span) → LieApart from spans → epoch < from → list_any (λ span. is_in_span epoch span && test span) spans ≡ false
none-passes from epoch test [] apart early = refl
none-passes from epoch test (span ∷ spans) apart early =
    grind (arith, nat_tests, apart.0, none-passes (span.last + 1) epoch test spans apart.2 (omega (arith, apart.0, apart.1)))

-- what holds of the one that holds the epoch
pub any-holds : (from epoch : ℕ) (test : Span → Bool) (spans : List Span) → LieApart from spans
    → list_any (λ span. is_in_span epoch span && test span) spans ≡ option_map_or test (find (is_in_span epoch) spans) false
any-holds from epoch test [] apart = refl
any-holds from epoch test (span ∷ spans) apart =
    let late : epoch < span.last + 1 → list_any (λ s. is_in_span epoch s && test s) spans ≡ false = none-passes (span.last + 1) epoch test spans apart.2 in
    grind (arith, nat_tests, cases_Bool (test span), late, any-holds (span.last + 1) epoch test spans apart.2)

found-above : (from epoch : ℕ) (spans : List Span) (span : Span) → LieApart from spans → find (is_in_span epoch) spans ≡ Some span → from ≤ span.first
found-above from epoch [] span apart found = grind arith
found-above from epoch (first ∷ spans) span apart found =
    grind (arith, nat_tests, apart.0, apart.1, cases_Bool (is_in_span epoch first), same_Some, found-above (first.last + 1) epoch spans span apart.2)

none-opens : (from low epoch : ℕ) (spans : List Span) → LieApart from spans → low < from → option_map_or (λ (other : Span). nat_eq low other.first) (find (is_in_span epoch) spans) false ≡ false
none-opens from low epoch [] apart early = refl
none-opens from low epoch (span ∷ spans) apart early =
    grind (arith, nat_tests, apart.0, cases_Bool (is_in_span epoch span), none-opens (span.last + 1) low epoch spans apart.2 (omega (arith, apart.0, apart.1, early)))

-- another epoch is in that one where the one that holds it begins in the same epoch
pub same-opening : (from epoch other : ℕ) (spans : List Span) (span : Span) → LieApart from spans → find (is_in_span epoch) spans ≡ Some span
    → option_map_or (λ (found : Span). nat_eq span.first found.first) (find (is_in_span other) spans) false ≡ is_in_span other span
same-opening from epoch other [] span apart found = grind arith
same-opening from epoch other (first ∷ spans) span apart found =
    let rest = same-opening (first.last + 1) epoch other spans span apart.2 in
    let none = none-opens (first.last + 1) first.first other spans apart.2 (omega (arith, apart.1)) in
    let above = found-above (first.last + 1) epoch spans span apart.2 in
    grind (arith, nat_tests, apart.1, cases_Bool (is_in_span epoch first), cases_Bool (is_in_span other first), same_Some, rest, none, above)

-- ---- the last of them

low-last : (from : ℕ) (spans : List Span) (span : Span) → LieApart from (spans ++ span ∷ []) → from ≤ span.first
low-last from [] span apart = apart.0
low-last from (first ∷ spans) span apart = omega (arith, apart.0, apart.1, low-last (first.last + 1) spans span apart.2)

pub held-by-last : (from epoch : ℕ) (spans : List Span) (span : Span) → LieApart from (spans ++ span ∷ []) → is_in_span epoch span ≡ true → find (is_in_span epoch) (spans ++ span ∷ []) ≡ Some span
held-by-last from epoch [] span apart within = grind arith
held-by-last from epoch (first ∷ spans) span apart within =
    grind (arith, nat_tests, low-last (first.last + 1) spans span apart.2, held-by-last (first.last + 1) epoch spans span apart.2 within)

pub held-before-last : (epoch : ℕ) (spans : List Span) (span : Span) → epoch < span.first → find (is_in_span epoch) (spans ++ span ∷ []) ≡ find (is_in_span epoch) spans
held-before-last epoch [] span early = grind (arith, nat_tests)
held-before-last epoch (first ∷ spans) span early = grind (arith, cases_Bool (is_in_span epoch first), held-before-last epoch spans span early)
