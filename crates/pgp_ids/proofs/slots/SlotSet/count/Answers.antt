use Rattle.std.proofs.Common.{ap, sym, ◌∙◌, length}
use Rattle.pgp_ids.specs.SlotBits.{slots_of}
use Rattle.pgp_ids.proofs.SlotLemmas.{count-range}
use Rattle.pgp_ids.proofs.slots.SlotSet.count.Goals as goal

pub returns : goal.returns
unfolding slots_of
returns c = sym (count-range 32 c.self.inside.bits c.self.invariant) ∙ ap length c.self.view_is
