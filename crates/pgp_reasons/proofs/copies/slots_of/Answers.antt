use Rattle.std.proofs.Common.{nat_lt, map, ap, sym, ◌∙◌, inl, inr, arith}
use Rattle.std.specs.List.{filter}
use Rattle.std.proofs.lemmas.Bool.Decides.{nat_tests}
use Rattle.pgp_ids.specs.declared.member.Member.{Member}
use Rattle.pgp_lists.specs.Ordered.{with_items}
use Rattle.pgp_prior.proofs.Lists.{numbers-in_order}
use Rattle.pgp_prior.proofs.SlotLemmas.{with_slot-is}
use Rattle.pgp_reasons.specs.Copies.{has_slot_number}
use Rattle.pgp_reasons.proofs.CopiesLemmas.{put-next}
use Rattle.pgp_reasons.proofs.copies.slots_of.Goals as goal
use Rattle.pgp_reasons.proofs.copies.slots_of.Goals.{then-member-lt16, else-member-lt16}

pub loop-member-init : goal.loop-member-init
loop-member-init c =
    ap (with_items nat_lt (map (λ (member : Member). member.slot) (filter has_slot_number c.args.members.now))) c.empty-slots.ensures
    ∙ sym (numbers-in_order (map (λ (member : Member). member.slot) (filter has_slot_number c.args.members.now)))

pub loop-member-preserved : goal.loop-member-preserved
loop-member-preserved c =
    let member = c.member-item.result in
    let next = put-next nat_lt (λ (m : Member). m.slot) has_slot_number c.args.members.now c.loop-member.member-index member c.loop-member.slots in
    elim c.if-member-lt16.branch [
      | then-member-lt16 w ↦ next _ _ c.loop-member-test.true c.member-item.is c.loop-member.invariant (inl (grind (arith, nat_tests), w.slots-is ∙ w.with-slots.ensures ∙ with_slot-is member.slot c.loop-member.slots))
      | else-member-lt16 w ↦ next _ _ c.loop-member-test.true c.member-item.is c.loop-member.invariant (inr (grind (arith, nat_tests), w.slots-is))
    ]
