-- The exponent of the least power of two that is at least a number.
use Rattle.std.proofs.Common.{◌≡◌, ℕ, zero, suc, ◌^◌, ◌<◌, ◌≤◌, nat_le, inl, inr, arith}
use Rattle.std.proofs.Math.Pow.{pow_mono}
use Rattle.std.proofs.lemmas.Bool.{cases_lt, cond_both, leb-true, leb-false}
use Rattle.pgp_hash.specs.StableMod.{least_exponent, exponent_of}

-- the power is at least the number
pub le-least_exponent : (n b : ℕ) → b ≤ 2 ^ n → b ≤ 2 ^ least_exponent n b
unfolding least_exponent
le-least_exponent zero b h = h
le-least_exponent (suc n) b h =
    cond_both (nat_le b (2 ^ n)) (least_exponent n b) (suc n) (λ k. b ≤ 2 ^ k)
    (λ e. le-least_exponent n b (leb-true b (2 ^ n) e)) (λ _. h)

-- each lower power is below the number
pub below_least_exponent : (n b k : ℕ) → k < least_exponent n b → 2 ^ k < b
unfolding least_exponent
below_least_exponent zero b k h = absurd (omega arith)
below_least_exponent (suc n) b k h =
    cond_both (nat_le b (2 ^ n)) (least_exponent n b) (suc n) (λ e. k < e → 2 ^ k < b)
    (λ _. below_least_exponent n b k)
    (λ e within.
    let under : k ≤ n = omega arith in
    let mono : 2 ^ k ≤ 2 ^ n = pow_mono under in
    let above : 2 ^ n < b = leb-false b (2 ^ n) e in
    omega arith)
    h

-- nothing else is such an exponent
pub least_exponent_unique : (n b k : ℕ) → b ≤ 2 ^ n → b ≤ 2 ^ k → ((j : ℕ) → j < k → 2 ^ j < b) → k ≡ least_exponent n b
least_exponent_unique n b k fits enough least =
    elim (cases_lt k (least_exponent n b)) [
      | inl under ↦ let low : 2 ^ k < b = below_least_exponent n b k under in absurd (omega arith)
      | inr over ↦
          elim (cases_lt (least_exponent n b) k) [
            | inl under ↦
                let low : 2 ^ least_exponent n b < b = least (least_exponent n b) under in
                let high : b ≤ 2 ^ least_exponent n b = le-least_exponent n b fits in
                absurd (omega arith)
            | inr same ↦ omega arith
          ]
    ]

-- the power for a number of groups is at least that number
pub exponent_of_enough : (b : ℕ) → b ≤ 2 ^ 32 → b ≤ 2 ^ exponent_of b
exponent_of_enough b word = le-least_exponent 32 b word

-- and no lower power is
pub exponent_of_least : (b k : ℕ) → b ≤ 2 ^ k → exponent_of b ≤ k
exponent_of_least b k enough =
    elim (cases_lt k (exponent_of b)) [
      | inl under ↦ let low : 2 ^ k < b = below_least_exponent 32 b k under in absurd (omega arith)
      | inr over ↦ over
    ]
