use Rattle.std.proofs.Common.{◌≡◌, drop, map, nat_lt}
use Rattle.std.specs.List.{filter}
use Rattle.pgp_lists.specs.Ordered.{with_items}
use Rattle.pgp_reasons.specs.Copies.{has_slot_number, numbered_slots}
use Rattle.pgp_reasons.proofs.copies.slots_of.Given as goal

abbrev pub invariant-loop-member : goal.invariant-loop-member
invariant-loop-member l =
    with_items nat_lt (map (λ member. member.slot) (filter has_slot_number (drop l.member-index l.members))) l.slots ≡ numbered_slots l.members
