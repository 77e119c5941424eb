use Rattle.std.proofs.Common.{◌≡◌, ◌<◌, ◌^◌, nat_eq, ap, sym, ◌∙◌}
use Rattle.std.specs.Bool.{one_answer}
use Rattle.std.specs.Cmp.{unsigned_Decides}
use Rattle.std.specs.Cmp.Lexicographic.{pointwise, bytes_decides}
use Rattle.pgp_ids.specs.SlotBits.{bits_of, slots_of, bits_of-slots_of}
use Rattle.pgp_ids.specs.declared.slots.SlotSet.TheInside.{Inside}
use Rattle.pgp_ids.proofs.slots.SlotSetPartialEq.eq.Goals as goal

-- a word is told by its slots
word-is : (a b : Inside) → a.bits < 2 ^ 32 → b.bits < 2 ^ 32 → slots_of a.bits ≡ slots_of b.bits → a.bits ≡ b.bits
word-is a b fits fits' same =
    ap (λ (i : Inside). i.bits) (sym (bits_of-slots_of a fits) ∙ (λ i. record { bits = bits_of (same i) }) ∙ bits_of-slots_of b fits')

pub returns : goal.returns
returns c =
    let a = c.self.inside in
    let b = c.other.inside in
    let decides = bytes_decides (slots_of a.bits) (slots_of b.bits) in
    one_answer (nat_eq a.bits b.bits) (pointwise nat_eq (slots_of a.bits) (slots_of b.bits)) (unsigned_Decides a.bits b.bits)
    ((λ is. word-is a b c.self.invariant c.other.invariant (decides.0 is)), λ same. decides.1 (ap slots_of same))
    ∙ (λ i. pointwise nat_eq (c.self.view_is i) (c.other.view_is i))
