-- What the set of a word's slots has, how many they are, and what one bit more does to it.
use Rattle.std.proofs.Common.{◌≡◌, ◌≢◌, ℕ, zero, suc, ◌+◌, ◌-◌, ◌/◌, ◌%◌, ◌<◌, ◌≤◌, ◌^◌, List, ◌∷◌, Bool, true, false, ◌||◌, ◌&&◌, not, nat_eq, nat_lt, length, refl, ap, ap₂, sym, ◌∙◌, arith, add-one, inl, inr, bit_and, filter}
use Rattle.std.specs.List.{list_all, range_with_len}
use Rattle.std.specs.Int.{bit_at}
use Rattle.std.specs.Int.RustNames.{count_ones}
use Rattle.std.specs.Int.Count.{ones_step}
use Rattle.std.proofs.lemmas.Nat.{ones-le, and_le_l, pow_pos}
use Rattle.std.proofs.Math.Nat.{eq-or-lt_of_le, pow-suc, mod-lt, mod-one, mod-eq_of_lt}
use Rattle.std.proofs.lemmas.Bool.{cases_Bool, cases_lt, eqb-true}
use Rattle.std.proofs.lemmas.Bool.Decides.{nat_tests, eqb_tells}
use Rattle.std.proofs.lemmas.List.Folds.{list_any_at, sum_by-zero}
use Rattle.std.proofs.lemmas.List.Sums.{sum_by-cons}
use Rattle.std.proofs.lemmas.List.FromFn.{length-range_with_len, get_or-range_with_len}
use Rattle.std.proofs.lemmas.Map.Views.{any-filter_same}
use Rattle.std.proofs.lemmas.Nat.Bits.{bit_at-lt, bit_at-suc, bit_at_lowest, bit_at_and}
use Rattle.pgp_ids.specs.SlotSet.{has_slot, with_slot, is_within, is_below}
use Rattle.pgp_ids.specs.SlotBits.{is_set, bits_of, bits_of-range}

-- ---- the numbers from s on that pass a test

-- a number of the range is among them if it passes
pub has-range : (p : ℕ → Bool) (n k : ℕ) → k < n → has_slot k (filter p (range_with_len 0 n)) ≡ p k
has-range p n k below =
    let there : has_slot k (range_with_len 0 n) ≡ true =
    list_any_at (nat_eq k) (range_with_len 0 n) k 0 (omega (arith, length-range_with_len 0 n)) (let at = get_or-range_with_len 0 n k 0 below in grind (arith, nat_tests)) in
    any-filter_same (nat_eq k) p (p k) (λ i same. ap p (sym (eqb-true k i same))) (range_with_len 0 n) ∙ rw there (elim (p k) as (λ b. (b && true) ≡ b) [ true ↦ refl | false ↦ refl ])

-- one below the range goes to the front
with-front : (p : ℕ → Bool) (n s k : ℕ) → k < s → with_slot k (filter p (range_with_len s n)) ≡ k ∷ filter p (range_with_len s n)
with-front p zero s k below = refl
with-front p (suc n) s k below =
    let less : nat_lt k s ≡ true = grind (arith, nat_tests) in
    elim (cases_Bool (p s)) [
      | inl passes ↦ rw (passes, less) refl
      | inr fails ↦ rw fails (with-front p n (s + 1) k (omega arith))
    ]

-- a test that says more of k alone, which is below the range
same-range : (p r : ℕ → Bool) (n s k : ℕ) → ((i : ℕ) → i ≢ k → r i ≡ p i) → k < s → filter r (range_with_len s n) ≡ filter p (range_with_len s n)
same-range p r zero s k differs below = refl
same-range p r (suc n) s k differs below =
    rw (differs s (omega arith), same-range p r n (s + 1) k differs (omega arith)) refl

-- and in the range
pub with-range : (p r : ℕ → Bool) (n s k : ℕ) → ((i : ℕ) → i ≢ k → r i ≡ p i) → r k ≡ true → s ≤ k → k < s + n → filter r (range_with_len s n) ≡ with_slot k (filter p (range_with_len s n))
with-range p r zero s k differs set from to = absurd (omega arith)
with-range p r (suc n) s k differs set from to = elim (eq-or-lt_of_le from) [
  | inl e ↦
      let not_less : nat_lt s s ≡ false = grind (arith, nat_tests) in
      let same : nat_eq s s ≡ true = grind (arith, nat_tests) in
      let here : r s ≡ true = ap r e ∙ set in
      rw (← e, here, same-range p r n (s + 1) k differs (omega arith)) (elim (cases_Bool (p s)) [
        | inl passes ↦ rw (passes, not_less, same) refl
        | inr fails ↦ rw fails (sym (with-front p n (s + 1) s (omega arith)))
      ])
  | inr lt ↦
      let not_less : nat_lt k s ≡ false = grind (arith, nat_tests) in
      let other : nat_eq k s ≡ false = grind (arith, nat_tests) in
      let rest = with-range p r n (s + 1) k differs set (omega arith) (omega arith) in
      rw (differs s (omega arith)) (elim (cases_Bool (p s)) [
        | inl passes ↦ rw (passes, not_less, other, rest) refl
        | inr fails ↦ rw (fails, rest) refl
      ])
]

all-kept : (p q : ℕ → Bool) (x : ℕ) (xs : List ℕ) → list_all q (filter p (x ∷ xs)) ≡ ((q x || not (p x)) && list_all q (filter p xs))
all-kept p q x xs = elim (cases_Bool (p x)) [
  | inl passes ↦ rw passes (elim (q x) as (λ b. (b && list_all q (filter p xs)) ≡ ((b || false) && list_all q (filter p xs))) [ true ↦ refl | false ↦ refl ])
  | inr fails ↦ rw fails (elim (q x) as (λ b. list_all q (filter p xs) ≡ ((b || true) && list_all q (filter p xs))) [ true ↦ refl | false ↦ refl ])
]

-- two tests of those that pass, of which each number says the same
all-range : (p q r t : ℕ → Bool) (n s : ℕ) → ((i : ℕ) → i < s + n → (q i || not (p i)) ≡ (t i || not (r i))) → list_all q (filter p (range_with_len s n)) ≡ list_all t (filter r (range_with_len s n))
all-range p q r t zero s each = refl
all-range p q r t (suc n) s each =
    all-kept p q s _ ∙ ap₂ ◌&&◌ (each s (omega arith)) (all-range p q r t n (s + 1) (λ i below. each i (omega arith))) ∙ sym (all-kept r t s _)

-- ---- the slots of a word

halved : (bits n s k : ℕ) → k ≡ s + 1 → length (filter (is_set bits) (range_with_len k n)) ≡ length (filter (is_set (bits / 2)) (range_with_len s n))
halved bits zero s k next = refl
halved bits (suc n) s k next =
    let same : is_set bits k ≡ is_set (bits / 2) s = ap (is_set bits) next ∙ ap (λ b. nat_eq b 1) (ap (bit_at bits) (add-one s) ∙ bit_at-suc bits s) in
    let rest = halved bits n (s + 1) (k + 1) (omega arith) in
    elim (cases_Bool (is_set (bits / 2) s)) [
      | inl on ↦ rw (same, on) (ap suc rest)
      | inr off ↦ rw (same, off) rest
    ]

pub count-range : (n bits : ℕ) → bits < 2 ^ n → length (filter (is_set bits) (range_with_len 0 n)) ≡ count_ones bits
count-range zero bits fits = omega (arith, ones-le 0 bits fits)
count-range (suc n) bits fits =
    let half : bits / 2 < 2 ^ n = omega (arith, pow-suc 2 n) in
    let rest = halved bits n 0 1 refl ∙ count-range n (bits / 2) half in
    elim (eqb_tells (bit_at bits 0) 1) [
      | inl on ↦ rw on.0 (omega (arith, ones_step bits, bit_at_lowest bits))
      | inr off ↦ rw off.0 (omega (arith, ones_step bits, bit_at_lowest bits))
    ]

-- where `off` has the bits that b lacks, `a & off` is 0 exactly where each slot of a is in b
pub within-range : (n a b off : ℕ) → a < 2 ^ n → ((i : ℕ) → i < n → bit_at off i ≡ 1 - bit_at b i)
    → nat_eq (bit_and a off) 0 ≡ is_within (filter (is_set a) (range_with_len 0 n)) (filter (is_set b) (range_with_len 0 n))
within-range n a b off fits lacks =
    let both = bit_and a off in
    let small : both < 2 ^ n = omega (arith, and_le_l a off) in
    let word : bits_of (filter (is_set both) (range_with_len 0 n)) ≡ both = omega (arith, bits_of-range n 0 n both (omega arith), mod-one both, mod-eq_of_lt small) in
    ap (λ k. nat_eq k 0) (sym word) ∙ sum_by-zero (λ slot. 2 ^ slot) (filter (is_set both) (range_with_len 0 n))
    ∙ all-range (is_set both) (λ slot. nat_eq (2 ^ slot) 0) (is_set a) (λ slot. has_slot slot (filter (is_set b) (range_with_len 0 n))) n 0 (λ i within.
    let below : i < n = omega arith in
    let positive = pow_pos i in
    let has = has-range (is_set b) n i below in
    let shared = bit_at_and a off i in
    let mine = bit_at-lt a i in
    let other = bit_at-lt b i in
    let lack = lacks i below in
    grind (arith, nat_tests))

-- the bits that two words share are those of the slots of the first that the second has
pub common-range : (n a b m s : ℕ) → s + n ≤ m → filter (is_set (bit_and a b)) (range_with_len s n) ≡ filter (λ slot. has_slot slot (filter (is_set b) (range_with_len 0 m))) (filter (is_set a) (range_with_len s n))
common-range zero a b m s ends = refl
common-range (suc n) a b m s ends =
    let below : s < m = omega arith in
    let has = has-range (is_set b) m s below in
    let shared = bit_at_and a b s in
    let mine = bit_at-lt a s in
    let other = bit_at-lt b s in
    let rest = common-range n a b m (s + 1) (omega arith) in
    elim (cases_Bool (is_set a s)) [
      | inl in_a ↦ elim (cases_Bool (is_set b s)) [
        | inl in_b ↦
            let both : is_set (bit_and a b) s ≡ true = grind (arith, nat_tests) in
            rw (both, in_a, has, in_b) (ap (λ slots. s ∷ slots) rest)
        | inr not_b ↦
            let not_both : is_set (bit_and a b) s ≡ false = grind (arith, nat_tests) in
            rw (not_both, in_a, has, not_b) rest
      ]
      | inr not_a ↦
          let not_both : is_set (bit_and a b) s ≡ false = grind (arith, nat_tests) in
          rw (not_both, not_a) rest
    ]

-- the slots of a word are below its number of bits
pub below-range : (n s limit : ℕ) (p : ℕ → Bool) → s + n ≤ limit → is_below limit (filter p (range_with_len s n)) ≡ true
below-range zero s limit p ends = refl
below-range (suc n) s limit p ends =
    let less : nat_lt s limit ≡ true = grind (arith, nat_tests) in
    let rest = below-range n (s + 1) limit p (omega arith) in
    elim (cases_Bool (p s)) [
      | inl passes ↦ rw (passes, less, rest) refl
      | inr fails ↦ rw fails rest
    ]

-- of slots from a limit on none is below it
above-range : (n s limit : ℕ) (p : ℕ → Bool) → limit ≤ s → is_below limit (filter p (range_with_len s n)) ≡ nat_eq (bits_of (filter p (range_with_len s n))) 0
above-range zero s limit p from = refl
above-range (suc n) s limit p from =
    let more : nat_lt s limit ≡ false = grind (arith, nat_tests) in
    let positive = pow_pos s in
    let rest = above-range n (s + 1) limit p (omega arith) in
    elim (cases_Bool (p s)) [
      | inl passes ↦ rw (passes, more, sum_by-cons (λ slot. 2 ^ slot) s (filter p (range_with_len (s + 1) n))) (grind (arith, nat_tests))
      | inr fails ↦ rw fails rest
    ]

skip-low : (a k s limit n : ℕ) (p : ℕ → Bool) → s + a ≡ limit → k ≡ a + n → is_below limit (filter p (range_with_len s k)) ≡ nat_eq (bits_of (filter p (range_with_len limit n))) 0
skip-low zero k s limit n p at len =
    let here : s ≡ limit = omega arith in
    let same : k ≡ n = omega arith in
    (λ i. is_below limit (filter p (range_with_len (here i) (same i)))) ∙ above-range n limit limit p (omega arith)
skip-low (suc a) zero s limit n p at len = absurd (omega arith)
skip-low (suc a) (suc k) s limit n p at len =
    let less : nat_lt s limit ≡ true = grind (arith, nat_tests) in
    let rest = skip-low a k (s + 1) limit n p (omega arith) (omega arith) in
    elim (cases_Bool (p s)) [
      | inl passes ↦ rw (passes, less) rest
      | inr fails ↦ rw fails rest
    ]

no-high : (high bits power : ℕ) → 0 < power → high + bits % power ≡ bits → nat_lt bits power ≡ nat_eq high 0
no-high high bits power some whole = elim (cases_lt bits power) [
  | inl less ↦ let same : bits % power ≡ bits = mod-eq_of_lt less in grind (arith, nat_tests)
  | inr more ↦ let part : bits % power < power = mod-lt bits some in grind (arith, nat_tests)
]

-- the slots of a word are below a limit where the word is below that power of 2
pub limit-range : (n limit m bits : ℕ) → limit + n ≡ m → bits < 2 ^ m → nat_lt bits (2 ^ limit) ≡ is_below limit (filter (is_set bits) (range_with_len 0 m))
limit-range n limit m bits len fits =
    let word = bits_of-range n limit m bits len in
    let whole : bits % 2 ^ m ≡ bits = mod-eq_of_lt fits in
    no-high (bits_of (filter (is_set bits) (range_with_len limit n))) bits (2 ^ limit) (pow_pos limit) (word ∙ whole)
    ∙ sym (skip-low limit m 0 limit n (is_set bits) (omega arith) (omega arith))
