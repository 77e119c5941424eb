-- Where intervals open: the greatest opening place, met from below.
use Rattle.std.proofs.Common.{◌≡◌, ℕ, zero, suc, ◌+◌, ◌-◌, ◌≤◌, [], ◌∷◌, Bool, true, false, cond, filter, fold, max, refl, ap, sym, ◌∙◌, arith, add-one}
use Rattle.std.specs.List.{range_with_len}
use Rattle.std.proofs.lemmas.List.Sums.{fold-append}
use Rattle.std.proofs.Math.Nat.{max-eq_right}
use Rattle.pgp_lists.proofs.Ranges.{filter_range-suc}
use Rattle.pgp_interval.specs.History.{History}
use Rattle.pgp_interval.specs.Runs.{ends_at, opens_at, last_below, opening_of}

greatest_below-suc : (test : ℕ → Bool) (n : ℕ) → last_below test (suc n) ≡ fold max (last_below test n) (cond (test n) (n ∷ []) [])
greatest_below-suc test n = ap (fold max 0) (filter_range-suc test n) ∙ fold-append max 0 (filter test (range_with_len 0 n)) _

greatest_below-le : (test : ℕ → Bool) (n : ℕ) → last_below test n ≤ n - 1
greatest_below-le test zero = omega arith
greatest_below-le test (suc n) =
    let below : last_below test n ≤ n - 1 = greatest_below-le test n in
    rw greatest_below-suc (elim (test n) as (λ b. fold max (last_below test n) (cond b (n ∷ []) []) ≤ suc n - 1) [ true ↦ omega arith | false ↦ omega arith ])

greatest_below-more : (test : ℕ → Bool) (n : ℕ) → last_below test (n + 1) ≡ cond (test n) n (last_below test n)
greatest_below-more test n =
    let below : last_below test n ≤ n = omega (arith, greatest_below-le test n) in
    ap (last_below test) (add-one n) ∙ greatest_below-suc test n
    ∙ (elim (test n) as (λ b. fold max (last_below test n) (cond b (n ∷ []) []) ≡ cond b n (last_below test n)) [ true ↦ max-eq_right below | false ↦ refl ])

-- ---- the opening of a place

pub opening_of-opens : {C : Type 0} (h : History C) (place : ℕ) → opens_at h place ≡ true → opening_of h place ≡ place
opening_of-opens h place opens = greatest_below-more (opens_at h) place ∙ ap (λ b. cond b place (last_below (opens_at h) place)) opens

pub opening_of-stays : {C : Type 0} (h : History C) (place : ℕ) → ends_at h place ≡ false → opening_of h (suc place) ≡ opening_of h place
opening_of-stays h place stays =
    greatest_below-more (opens_at h) (suc place) ∙ ap (λ b. cond b (suc place) (last_below (opens_at h) (suc place))) stays
    ∙ sym (ap (last_below (opens_at h)) (add-one place))

pub opening_of-le : {C : Type 0} (h : History C) (place : ℕ) → opening_of h place ≤ place
opening_of-le h place = omega (arith, greatest_below-le (opens_at h) (place + 1))

pub opens_at-next : {C : Type 0} (h : History C) (place : ℕ) → opens_at h (place + 1) ≡ ends_at h place
opens_at-next h place = ap (opens_at h) (add-one place)
