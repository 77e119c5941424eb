use Rattle.std.proofs.Common.{◌∙◌, ap₂, arith}
use Rattle.pgp_ids.specs.SlotSet.{common}
use Rattle.pgp_ids.specs.SlotBits.{slots_of}
use Rattle.pgp_ids.proofs.SlotLemmas.{common-range}
use Rattle.pgp_ids.proofs.slots.SlotSet.common.Goals as goal

pub returns : goal.returns
unfolding slots_of
returns c =
    common-range 32 c.self.inside.bits c.other.inside.bits 32 0 (omega arith)
    ∙ ap₂ common c.self.view_is c.other.view_is
