use Rattle.std.proofs.Common.{ap, ◌∙◌, w32, nat_eq, arith}
use Rattle.std.proofs.lemmas.Nat.Bits.{bit_at_set_same, bit_at_set_other}
use Rattle.pgp_ids.specs.SlotSet.{with_slot}
use Rattle.pgp_ids.specs.SlotBits.{is_set, slots_of}
use Rattle.pgp_ids.proofs.SlotLemmas.{with-range}
use Rattle.pgp_ids.proofs.slots.SlotSet.with.Goals as goal

pub returns : goal.returns
unfolding slots_of
returns c =
    with-range (is_set c.self.inside.bits) _ 32 0 c.args.slot
    (λ i other. ap (λ b. nat_eq b 1) (bit_at_set_other w32 c.self.inside.bits c.args.slot c.requires i other))
    (ap (λ b. nat_eq b 1) (bit_at_set_same w32 c.self.inside.bits c.args.slot c.requires)) (omega arith) c.requires
    ∙ ap (with_slot c.args.slot) c.self.view_is
