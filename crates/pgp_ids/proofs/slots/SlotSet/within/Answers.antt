use Rattle.std.proofs.Common.{◌∙◌, w32, ap₂}
use Rattle.std.proofs.lemmas.Nat.Bits.{bit_at_not}
use Rattle.pgp_ids.specs.SlotSet.{is_within}
use Rattle.pgp_ids.specs.SlotBits.{slots_of}
use Rattle.pgp_ids.proofs.SlotLemmas.{within-range}
use Rattle.pgp_ids.proofs.slots.SlotSet.within.Goals as goal

pub returns : goal.returns
unfolding slots_of
returns c =
    within-range 32 c.self.inside.bits c.other.inside.bits _ c.self.invariant
    (λ i below. bit_at_not w32 c.other.inside.bits i c.other.invariant below)
    ∙ ap₂ is_within c.self.view_is c.other.view_is
