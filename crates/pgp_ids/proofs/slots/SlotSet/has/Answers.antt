use Rattle.std.proofs.Common.{ap, sym, ◌∙◌, nat_eq}
use Rattle.std.proofs.lemmas.Nat.Bits.{shr_and_one}
use Rattle.pgp_ids.specs.SlotSet.{has_slot}
use Rattle.pgp_ids.specs.SlotBits.{is_set, slots_of}
use Rattle.pgp_ids.proofs.SlotLemmas.{has-range}
use Rattle.pgp_ids.proofs.slots.SlotSet.has.Goals as goal

pub returns : goal.returns
unfolding slots_of
returns c =
    ap (λ b. nat_eq b 1) (shr_and_one c.self.inside.bits c.args.slot)
    ∙ sym (has-range (is_set c.self.inside.bits) 32 c.args.slot c.requires)
    ∙ ap (has_slot c.args.slot) c.self.view_is
