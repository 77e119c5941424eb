-- Sets of devices that may have more than was put in.
use Rattle.pgp_shard.proofs.Common.{nat_tests, have_a_bit, may_meet, ◌&&◌, and_from, ◌≡◌, ℕ, ◌+◌, ◌*◌, ◌/◌, ◌%◌, ◌<◌, ◌≤◌, ◌^◌, Bool, true, not, nat_eq, min, List, length, take, get_or, bit_and, bit_or, w64, ap, sym, ◌∙◌, inl, inr, arith, list_any, cases_Bool, eqb-true, or_cases, take_all, list_any_more, Covers, CoversStill, OsdFilter}
use Rattle.std.specs.Int.{bit_at}
use Rattle.std.proofs.lemmas.Nat.Bits.{bit_at_and, bit_at_or, bit_at-lt, bit_at-zero, bit_at_set_same}

-- ---- one device more

abbrev pub with_osd : OsdFilter → ℕ → OsdFilter
with_osd set osd =
    record {
      low = bit_or set.low (1 * 2 ^ (osd % 64) % 18446744073709551616);
      high = bit_or set.high (1 * 2 ^ (osd / 64) % 18446744073709551616);
      sum = bit_or set.sum (1 * 2 ^ ((osd % 64 + osd / 64) % 64) % 18446744073709551616);
    }

kept-bit : (n m i : ℕ) → bit_at n i ≡ 1 → bit_at (bit_or n m) i ≡ 1
kept-bit n m i on = omega (arith, bit_at_or n m i, bit_at-lt m i, on)

pub added : (set : OsdFilter) (osd : ℕ) → osd ≤ 4095 → Covers (with_osd set osd) osd
added set osd fits =
    let low : osd % 64 < 64 = omega arith in
    let high : osd / 64 < 64 = omega (arith, fits) in
    let sum : (osd % 64 + osd / 64) % 64 < 64 = omega arith in
    record {
      low = bit_at_set_same w64 set.low (osd % 64) low;
      high = bit_at_set_same w64 set.high (osd / 64) high;
      sum = bit_at_set_same w64 set.sum ((osd % 64 + osd / 64) % 64) sum;
    }

pub still-added : (set : OsdFilter) (osd : ℕ) → CoversStill set (with_osd set osd)
still-added set osd other is =
    record {
      low = kept-bit set.low _ (other % 64) is.low;
      high = kept-bit set.high _ (other / 64) is.high;
      sum = kept-bit set.sum _ ((other % 64 + other / 64) % 64) is.sum;
    }

-- ---- what a list names, one element after the other

-- the set has what the first elements name, and takes what the next one names
pub covers-more : {N X : Type 0} (p : N → X → Bool) (xs : List X) (i : ℕ) (x : X) (Old New : N → Type 0) → i < length xs → ((name : N) → Old name → New name)
    → ((name : N) → p name (get_or xs i x) ≡ true → New name) → ((name : N) → list_any (p name) (take i xs) ≡ true → Old name)
    → (name : N) → list_any (p name) (take (i + 1) xs) ≡ true → New name
covers-more p xs i x Old New within still here there name is =
    elim (or_cases _ _ (sym (list_any_more (p name) xs i x within) ∙ is)) [
      | inl before ↦ still name (there name before)
      | inr next ↦ here name next
    ]

-- the set has what the whole list names
pub covers-all : {N X : Type 0} (p : N → X → Bool) (xs : List X) (i : ℕ) (Has : N → Type 0) → length xs ≤ i
    → ((name : N) → list_any (p name) (take i xs) ≡ true → Has name) → (name : N) → list_any (p name) xs ≡ true → Has name
covers-all p xs i Has whole there name is = there name (ap (list_any (p name)) (take_all i xs whole) ∙ is)

-- ---- two sets

-- a bit that both words have
both : (a b i : ℕ) → bit_at a i ≡ 1 → bit_at b i ≡ 1 → have_a_bit a b ≡ true
both a b i one two = elim (cases_Bool (nat_eq (bit_and a b) 0)) [
  | inl none ↦ absurd (omega (arith, bit_at_and a b i, one, two, ap (λ n. bit_at n i) (eqb-true (bit_and a b) 0 none), bit_at-zero i))
  | inr some ↦ ap not some
]

-- a device that both sets have
pub shared : (one two : OsdFilter) (osd : ℕ) → Covers one osd → Covers two osd → may_meet one two ≡ true
shared one two osd here there =
    and_from _ _ (both one.low two.low (osd % 64) here.low there.low)
    (and_from _ _ (both one.high two.high (osd / 64) here.high there.high) (both one.sum two.sum ((osd % 64 + osd / 64) % 64) here.sum there.sum))

-- the least of three is 0 where one of them is
pub least-of : (a b c : ℕ) → not (nat_eq (min (min a b) c) 0) ≡ (not (nat_eq a 0) && (not (nat_eq b 0) && not (nat_eq c 0)))
least-of a b c = grind (arith, nat_tests)
