-- The set of slots that a word of 32 bits stands for: slot k is in it if bit k is set.
use Rattle.std.specs.Prelude.{◌≡◌, ℕ, zero, suc, ◌+◌, ◌*◌, ◌%◌, ◌<◌, ◌^◌, List, Bool, nat_eq, filter, sum_by}
use Rattle.std.proofs.Common.{ap, ◌∙◌, arith, refl, inl, inr}
use Rattle.std.proofs.lemmas.List.Sums.{sum_by-cons}
use Rattle.std.proofs.lemmas.Nat.{mod-pow-add}
use Rattle.std.proofs.lemmas.Nat.Bits.{bit_at-lt}
use Rattle.std.proofs.lemmas.Bool.Decides.{eqb_tells}
use Rattle.std.proofs.Math.Nat.{mod-one, mod-eq_of_lt}
use Rattle.std.specs.Int.{bit_at}
use Rattle.std.specs.List.{range_with_len}
use Rattle.pgp_ids.specs.declared.slots.SlotSet.TheInside.{Inside}

-- the bit of this slot is set
abbrev pub is_set : ℕ → ℕ → Bool
is_set bits slot = nat_eq (bit_at bits slot) 1

-- the slots from 0 to 31 whose bit is set
unfoldable pub slots_of : ℕ → List ℕ
slots_of bits = filter (is_set bits) (range_with_len 0 32)

-- the word of a set
abbrev pub bits_of : List ℕ → ℕ
bits_of slots = sum_by (λ slot. 2 ^ slot) slots

-- the word of the slots from s up to m, with the bits below s
pub bits_of-range : (n s m bits : ℕ) → s + n ≡ m → bits_of (filter (is_set bits) (range_with_len s n)) + bits % 2 ^ s ≡ bits % 2 ^ m
bits_of-range zero s m bits ends = let same : s ≡ m = omega arith in omega (arith, ap (λ k. bits % 2 ^ k) same)
bits_of-range (suc n) s m bits ends =
    let digit : bit_at bits s < 2 = bit_at-lt bits s in
    let next : s + 1 ≡ 1 + s = omega arith in
    let split : bits % 2 ^ (s + 1) ≡ bit_at bits s * 2 ^ s + bits % 2 ^ s = ap (λ k. bits % 2 ^ k) next ∙ mod-pow-add bits 1 s in
    let rest = bits_of-range n (s + 1) m bits (omega arith) in
    elim (eqb_tells (bit_at bits s) 1) [
      | inl on ↦
          let one = rw on.1 at split in
          rw (on.0, sum_by-cons (λ slot. 2 ^ slot) s (filter (is_set bits) (range_with_len (s + 1) n))) (omega (arith, one))
      | inr off ↦ let none : bit_at bits s ≡ 0 = omega (arith, off.1) in rw off.0 (omega (arith, rw none at split))
    ]

pub bits_of-slots_of : (s : Inside) → s.bits < 2 ^ 32 → record { bits = bits_of (slots_of s.bits) } ≡ s
unfolding slots_of
bits_of-slots_of s fits =
    let word : bits_of (slots_of s.bits) ≡ s.bits = omega (arith, bits_of-range 32 0 32 s.bits refl, mod-one s.bits, mod-eq_of_lt fits) in
    ap (λ (b : ℕ). let i : Inside = record { bits = b } in i) word
