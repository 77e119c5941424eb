-- The tables of the logarithm, held against their formulas entry by entry, and the power of 2 below a number.
use Rattle.std.proofs.Common.{◌≡◌, ◌<◌, ◌≤◌, ℕ, zero, suc, ◌+◌, ◌-◌, ◌*◌, ◌^◌, Bool, true, false, ◌&&◌, nat_eq, nat_le, nat_lt, min, List, slice_index_or, unwrap_or, Some, refl, arith, ap, sym, ◌∙◌, inl, inr, one-add}
use Rattle.std.specs.Int.Count.{count_leading_zeros}
use Rattle.std.proofs.Math.Nat.{mul-le-mul_right, pow-le-pow_right, mul_assoc}
use Rattle.std.proofs.lemmas.Nat.{pow-add, leading_top}
use Rattle.std.proofs.lemmas.Bool.{cases_eq, cases_lt}
use Rattle.std.proofs.lemmas.Bool.Decides.{nat_tests}
use Rattle.pgp_crush.specs.Least.{greatest_below}
use Rattle.pgp_crush.specs.Logarithm.{power_of}

-- ---- tables

-- each number below n passes
unfoldable pub all_below : (ℕ → Bool) → ℕ → Bool
all_below test zero = true
all_below test (suc n) = test n && all_below test n

both : (x y : Bool) → (x && y) ≡ true → (x ≡ true) × (y ≡ true)
both true true h = (refl, refl)
both true false h = cc
both false true h = cc
both false false h = cc

at : (test : ℕ → Bool) (n : ℕ) → all_below test n ≡ true → (k : ℕ) → k < n → test k ≡ true
unfolding all_below
at test zero h k below = absurd (omega arith)
at test (suc n) h k below =
    let here = both (test n) (all_below test n) h in
    elim (cases_eq k n) [ inl same ↦ rw same here.0 | inr other ↦ at test n here.1 k (omega arith) ]

pub entry_is : (table : List ℕ) (f : ℕ → ℕ) (n : ℕ) → all_below (λ k. nat_eq (slice_index_or table k 0) (f k)) n ≡ true → (k : ℕ) → k < n → slice_index_or table k 0 ≡ f k
entry_is table f n h k below =
    let same : nat_eq (slice_index_or table k 0) (f k) ≡ true = at (λ k. nat_eq (slice_index_or table k 0) (f k)) n h k below in
    grind (arith, nat_tests)

-- times the entry of a factor it is below the bound
pub entry_within : (table : List ℕ) (factor : ℕ → ℕ) (bound n : ℕ) → all_below (λ k. nat_lt (factor k * slice_index_or table k 0) bound) n ≡ true → (k : ℕ) → k < n
    → factor k * slice_index_or table k 0 < bound
entry_within table factor bound n h k below =
    let less : nat_lt (factor k * slice_index_or table k 0) bound ≡ true = at (λ k. nat_lt (factor k * slice_index_or table k 0) bound) n h k below in
    grind (arith, nat_tests)

-- ---- the power of 2 below a number

greatest_below-is : (test : ℕ → Bool) (n p : ℕ) → p < n → test p ≡ true → ((k : ℕ) → p < k → k < n → test k ≡ false) → greatest_below test n ≡ Some p
unfolding greatest_below
greatest_below-is test zero p below passes fails = absurd (omega arith)
greatest_below-is test (suc n) p below passes fails = elim (cases_eq n p) [
  | inl last ↦ (let first : test n ≡ true = ap test last ∙ passes in rw first (ap Some last))
  | inr other ↦ rw (fails n (omega arith) (omega arith)) (greatest_below-is test n p (omega arith) passes (λ k above within. fails k above (omega arith)))
]

power_is : (x p : ℕ) → p ≤ 15 → 2 ^ p ≤ x → (p < 15 → x < 2 ^ suc p) → power_of x ≡ p
power_is x p small low high = ap (λ o. unwrap_or o 0) (greatest_below-is (λ q. nat_le (2 ^ q) x) 16 p (omega arith) (grind (arith, nat_tests)) above)
  where
    above : (k : ℕ) → p < k → k < 16 → nat_le (2 ^ k) x ≡ false
    above k more within =
        let most : 2 ^ suc p ≤ 2 ^ k = pow-le-pow_right (omega arith) (omega arith) in
        let less : x < 2 ^ suc p = high (omega arith) in
        grind (arith, nat_tests)

record IsPower (x p : ℕ) : Type 0 where
  is : power_of x ≡ p
  small : p ≤ 15
  low : 2 ^ p ≤ x
  high : x ≤ 2 * 2 ^ p

found : (x : ℕ) → 0 < x → x ≤ 2 ^ 16 → IsPower x (min (31 - count_leading_zeros 32 x) 15)
found x some within =
    let top = leading_top 32 x some (omega arith) in
    let places : 31 - count_leading_zeros 32 x ≡ top.0 = omega (arith, top.1) in
    rw places (elim (cases_lt top.0 15) [
      | inl few ↦
          let is : min top.0 15 ≡ top.0 = omega arith in
          rw is (record { is = power_is x top.0 (omega arith) top.2 (λ _. top.3); small = omega arith; low = top.2; high = omega (arith, top.3, pow_more top.0) })
      | inr many ↦
          let is : min top.0 15 ≡ 15 = omega arith in
          let most : 2 ^ 15 ≤ 2 ^ top.0 = pow-le-pow_right (omega arith) many in
          let low : 2 ^ 15 ≤ x = omega (arith, top.2) in
          rw is (record { is = power_is x 15 (omega arith) low (λ less. absurd (omega arith)); small = omega arith; low = low; high = omega arith })
    ])
  where
    pow_more : (p : ℕ) → 2 ^ suc p ≡ 2 * 2 ^ p
    pow_more p = ap (λ (k : ℕ). 2 ^ k) (sym (one-add p)) ∙ pow-add 2 1 p

pub power_by_leading_zeros : (x : ℕ) → 0 < x → x ≤ 2 ^ 16 → min (31 - count_leading_zeros 32 x) 15 ≡ power_of x
power_by_leading_zeros x some within = sym (found x some within).is

pub power_small : (x : ℕ) → 0 < x → x ≤ 2 ^ 16 → power_of x ≤ 15
power_small x some within = let f = found x some within in omega (arith, f.is, f.small)

-- x over that power, in units of 2 ^ -15
bounds : (x p q : ℕ) → p + q ≡ 15 → 2 ^ p ≤ x → x ≤ 2 * 2 ^ p → (2 ^ 15 ≤ x * 2 ^ q) × (x * 2 ^ q ≤ 2 ^ 16)
bounds x p q e low high =
    let whole : 2 ^ p * 2 ^ q ≡ 2 ^ 15 = sym (pow-add 2 p q) ∙ ap (λ (k : ℕ). 2 ^ k) e in
    let least : 2 ^ p * 2 ^ q ≤ x * 2 ^ q = mul-le-mul_right (2 ^ q) low in
    let most : x * 2 ^ q ≤ (2 * 2 ^ p) * 2 ^ q = mul-le-mul_right (2 ^ q) high in
    let twice : (2 * 2 ^ p) * 2 ^ q ≡ 2 * (2 ^ p * 2 ^ q) = mul_assoc 2 (2 ^ p) (2 ^ q) in
    (omega arith, omega arith)

pub scaled_bounds : (x : ℕ) → 0 < x → x ≤ 2 ^ 16 → (2 ^ 15 ≤ x * 2 ^ (15 - power_of x)) × (x * 2 ^ (15 - power_of x) ≤ 2 ^ 16)
scaled_bounds x some within =
    let f = found x some within in
    rw f.is (bounds x (min (31 - count_leading_zeros 32 x) 15) (15 - min (31 - count_leading_zeros 32 x) 15) (omega (arith, f.small)) f.low f.high)
