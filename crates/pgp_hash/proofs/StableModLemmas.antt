-- The mask of a number of groups, and the group of a hash.
use Rattle.std.proofs.Common.{◌≡◌, ℕ, zero, suc, ◌+◌, ◌-◌, ◌*◌, ◌/◌, ◌%◌, ◌^◌, ◌<◌, ◌≤◌, nat_lt, bit_and, cond, ◌⊎◌, inl, inr, arith, refl, sym, ap, ◌∙◌}
use Rattle.std.proofs.Math.Nat.{mod-lt, mod-eq_of_lt}
use Rattle.std.proofs.Math.Pow.{pow_mono, pow_pos, mod-mod-pow}
use Rattle.std.proofs.lemmas.Bool.{cases_lt, cond_both, cond_below, cond_above, ltb-true}
use Rattle.std.proofs.lemmas.Bool.Decides.{nat_tests}
use Rattle.std.proofs.lemmas.Nat.{leading_top, and_mask}
use Rattle.std.proofs.lemmas.Nat.Bits.{ones_shr}
use Rattle.std.specs.Int.Count.{count_leading_zeros}
use Rattle.pgp_hash.specs.StableMod.{least_exponent, exponent_of, mask_of, stable_mod}
use Rattle.pgp_hash.proofs.Exponents.{le-least_exponent, below_least_exponent, least_exponent_unique}

-- up to one group has the mask 0
pub mask_of_one : (b : ℕ) → b ≤ 1 → 0 ≡ mask_of b
mask_of_one b h =
    let none : 0 ≡ least_exponent 32 b =
    least_exponent_unique 32 b 0 (omega arith) h (λ j below. absurd (omega arith)) in
    rw (← none) refl

-- more groups have the ones of a word without as many as b - 1 has leading zeros
pub mask_of_more : (b : ℕ) → 1 < b → b < 2 ^ 32 → (2 ^ 32 - 1) / 2 ^ count_leading_zeros 32 (b - 1) ≡ mask_of b
mask_of_more b more word =
    let some : 0 < b - 1 = omega arith in
    let fits : b - 1 < 2 ^ 32 = omega arith in
    let (j, sum, low, high) = leading_top 32 (b - 1) some fits in
    let exponent : suc j ≡ least_exponent 32 b =
    least_exponent_unique 32 b (suc j) (omega arith) (omega arith)
    (λ i below. let under : i ≤ j = omega arith in let mono : 2 ^ i ≤ 2 ^ j = pow_mono under in omega arith) in
    let shifted = ones_shr 32 (count_leading_zeros 32 (b - 1)) (omega arith) in
    let left : 32 - count_leading_zeros 32 (b - 1) ≡ suc j = omega arith in
    shifted ∙ rw (left, exponent) refl

-- half a mask is that of half the power
half_mask : (k : ℕ) → (2 ^ k - 1) / 2 ≡ 2 ^ (k - 1) - 1
half_mask zero = refl
half_mask (suc k) = ones_shr (suc k) 1 (omega arith)

-- where the whole mask leaves less than b, that is the group
pub stable_mod_whole : (x b mask : ℕ) → mask ≡ mask_of b → bit_and x mask < b → bit_and x mask ≡ stable_mod x b
unfolding stable_mod
stable_mod_whole x b mask is below =
    let masked : bit_and x mask ≡ x % 2 ^ exponent_of b = ap (bit_and x) is ∙ and_mask x (exponent_of b) in
    let under : x % 2 ^ exponent_of b < b = omega arith in
    masked ∙ cond_below (x % 2 ^ exponent_of b) b (x % 2 ^ exponent_of b) (x % 2 ^ (exponent_of b - 1)) under

-- elsewhere half the mask gives it
pub stable_mod_half : (x b mask : ℕ) → mask ≡ mask_of b → b ≤ bit_and x mask → bit_and x (mask / 2) ≡ stable_mod x b
unfolding stable_mod
stable_mod_half x b mask is over =
    let masked : bit_and x mask ≡ x % 2 ^ exponent_of b = ap (bit_and x) is ∙ and_mask x (exponent_of b) in
    let above : b ≤ x % 2 ^ exponent_of b = omega arith in
    let half : mask / 2 ≡ 2 ^ (exponent_of b - 1) - 1 = ap (λ m. m / 2) is ∙ half_mask (exponent_of b) in
    let halved : bit_and x (mask / 2) ≡ x % 2 ^ (exponent_of b - 1) =
    ap (bit_and x) half ∙ and_mask x (exponent_of b - 1) in
    cond_above (x % 2 ^ exponent_of b) b (x % 2 ^ exponent_of b) (x % 2 ^ (exponent_of b - 1)) _ above halved

-- half the least power that is at least b is no more than b, so a number modulo it is below b
half_below : (k x b : ℕ) → 0 < b → ((j : ℕ) → j < k → 2 ^ j < b) → x % 2 ^ (k - 1) < b
half_below zero x b some least = let small : x % 1 < 1 = omega arith in omega arith
half_below (suc k) x b some least =
    let pos : 0 < 2 ^ k = pow_pos k in
    let low : x % 2 ^ k < 2 ^ k = mod-lt x pos in
    let under : 2 ^ k < b = least k (omega arith) in
    let before : suc k - 1 ≡ k = omega arith in
    rw before (omega arith)

-- a group is one of the b groups
pub stable_mod_below : (x b : ℕ) → 0 < b → stable_mod x b < b
unfolding stable_mod
stable_mod_below x b some =
    cond_both (nat_lt (x % 2 ^ exponent_of b) b) (x % 2 ^ exponent_of b) (x % 2 ^ (exponent_of b - 1)) (λ g. g < b)
    (λ e. ltb-true (x % 2 ^ exponent_of b) b e)
    (λ e. half_below (exponent_of b) x b some (below_least_exponent 32 b))

-- one more group takes the same power where b is below it
same_exponent : (b : ℕ) → b + 1 ≤ 2 ^ 32 → b < 2 ^ exponent_of b → exponent_of b ≡ exponent_of (b + 1)
same_exponent b word under =
    least_exponent_unique 32 (b + 1) (exponent_of b) word (omega arith)
    (λ j below. let low : 2 ^ j < b = below_least_exponent 32 b j below in omega arith)

-- and the next one where b is that power itself
next_exponent : (b : ℕ) → b + 1 ≤ 2 ^ 32 → b ≡ 2 ^ exponent_of b → suc (exponent_of b) ≡ exponent_of (b + 1)
next_exponent b word full =
    let double : 2 ^ suc (exponent_of b) ≡ 2 * 2 ^ exponent_of b = omega arith in
    let pos : 0 < 2 ^ exponent_of b = pow_pos (exponent_of b) in
    least_exponent_unique 32 (b + 1) (suc (exponent_of b)) word (omega arith)
    (λ j below.
    let under : j ≤ exponent_of b = omega arith in
    let mono : 2 ^ j ≤ 2 ^ exponent_of b = pow_mono under in
    omega arith)

-- the group by an exponent that is b's
stable_mod_at : (x b k : ℕ) → k ≡ exponent_of b → stable_mod x b ≡ cond (nat_lt (x % 2 ^ k) b) (x % 2 ^ k) (x % 2 ^ (k - 1))
unfolding stable_mod
stable_mod_at x b k is = rw is refl

-- with the same power, the two tests differ at the new group alone
same_power : (v half b : ℕ)
    → (cond (nat_lt v (b + 1)) v half ≡ cond (nat_lt v b) v half) ⊎ (cond (nat_lt v (b + 1)) v half ≡ b)
same_power v half b = grind (arith, nat_tests)

-- with the next power, the whole power leaves what half of it does, or more
next_power : (v low other b : ℕ) → (v < b → v ≡ low) → low < b
    → (cond (nat_lt v (b + 1)) v low ≡ cond (nat_lt low b) low other) ⊎ (cond (nat_lt v (b + 1)) v low ≡ b)
next_power v low other b same under = grind (arith, nat_tests)

-- a number modulo a power, where that is below half the power, is the number modulo half of it
mod_of_half : (x k : ℕ) → x % 2 ^ suc k < 2 ^ k → x % 2 ^ suc k ≡ x % 2 ^ k
mod_of_half x k under =
    let plus : 1 + k ≡ suc k = omega arith in
    let again : x % 2 ^ suc k % 2 ^ k ≡ x % 2 ^ k = rw plus at (mod-mod-pow x 1 k) in
    sym (mod-eq_of_lt under) ∙ again

-- as the groups grow by one, a hash stays in its group or goes to the new one
pub stable_mod_grows : (x b : ℕ) → 0 < b → b + 1 ≤ 2 ^ 32
    → (stable_mod x (b + 1) ≡ stable_mod x b) ⊎ (stable_mod x (b + 1) ≡ b)
stable_mod_grows x b some word =
    elim (cases_lt b (2 ^ exponent_of b)) [
      | inl under ↦
          rw (stable_mod_at x b (exponent_of b) refl, stable_mod_at x (b + 1) (exponent_of b) (same_exponent b word under))
          (same_power (x % 2 ^ exponent_of b) (x % 2 ^ (exponent_of b - 1)) b)
      | inr over ↦
          let fits : b ≤ 2 ^ exponent_of b = le-least_exponent 32 b (omega arith) in
          let full : b ≡ 2 ^ exponent_of b = omega arith in
          let before : suc (exponent_of b) - 1 ≡ exponent_of b = omega arith in
          let small = mod-lt x (pow_pos (exponent_of b)) in
          let low : x % 2 ^ exponent_of b < b = omega arith in
          let same : x % 2 ^ suc (exponent_of b) < b → x % 2 ^ suc (exponent_of b) ≡ x % 2 ^ exponent_of b =
          λ below. mod_of_half x (exponent_of b) (omega arith) in
          rw (stable_mod_at x b (exponent_of b) refl, stable_mod_at x (b + 1) (suc (exponent_of b)) (next_exponent b word full), before)
          (next_power (x % 2 ^ suc (exponent_of b)) (x % 2 ^ exponent_of b) (x % 2 ^ (exponent_of b - 1)) b same low)
    ]
