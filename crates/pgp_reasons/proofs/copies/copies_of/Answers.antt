use Rattle.std.proofs.Common.{ap, ◌∙◌}
use Rattle.pgp_reasons.specs.Copies.{numbered_slots}
use Rattle.pgp_reasons.specs.Lacking.{lacking}
use Rattle.pgp_reasons.proofs.copies.copies_of.Goals as goal

pub returns : goal.returns
returns c = λ i. record {
  members = (c.from_vec.ensures ∙ c.in_ok-members.ensures) i;
  lacks = (c.lacking-lacks.ensures.value ∙ ap (lacking c.args.code.now) (c.slots_of.ensures ∙ ap numbered_slots (c.as_slice.ensures.value ∙ c.in_ok-members.ensures))) i;
}
