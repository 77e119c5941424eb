-- An array that is made place by place.
use Rattle.std.proofs.Common.{◌≡◌, ℕ, zero, suc, ◌+◌, ◌<◌, ◌≤◌, List, get_or, inl, inr, map, subst, sym, arith, ◌∙◌}
use Rattle.core.specs.Array.{IsFromFnResult, IsFromFnResultFrom}
use Rattle.core.specs.Fn.{Called, Mut}
use Rattle.std.proofs.lemmas.Bool.{cases_eq}
use Rattle.std.proofs.lemmas.List.FromFn.{fill_by_all}
use Rattle.std.specs.List.{range_with_len}

at-each : {F B : Type 0} (g : Mut F (ℕ × Unit {0}) B) (f : F) (h : ℕ → B) (ys : List B)
    → ((x : ℕ) (r : B) (q : F) → Called g f (x, tt) r q → (q ≡ f) × (r ≡ h x)) → (i n k : ℕ) (d : B) → IsFromFnResultFrom g f ys i n → i ≤ k → k < i + n
    → get_or ys k d ≡ h k
at-each g f h ys calls i zero k d each from below = absurd (omega arith)
at-each {F} {B} g f h ys calls i (suc n) k d each from below =
    let one = calls i each.1 each.0 each.3 in
    elim (cases_eq k i) [
      | inl here ↦ subst (λ (j : ℕ). get_or ys j d ≡ h j) (sym here) (each.2.1 d ∙ one.1)
      | inr apart ↦ at-each g f h ys calls (i + 1) n k d (subst (λ (q : F). IsFromFnResultFrom g q ys (i + 1) n) one.0 each.4) (omega arith) (omega arith)
    ]

-- a call at each place gave what the function of the place gives
pub made-each : {F B : Type 0} {g : Mut F (ℕ × Unit {0}) B} {f : F} (h : ℕ → B) (ys : List B) (n : ℕ) (d : B) → IsFromFnResult g f ys n
    → ((x : ℕ) (r : B) (q : F) → Called g f (x, tt) r q → (q ≡ f) × (r ≡ h x)) → ys ≡ map h (range_with_len 0 n)
made-each {F} {B} {g} {f} h ys n d made calls = fill_by_all h ys n d made.long (λ k below. at-each g f h ys calls 0 n k d made.each (omega arith) (omega arith))
