use Rattle.std.proofs.Common.{◌≡◌, ◌<◌, map, nat_lt}
use Rattle.std.specs.List.{All, filter}
use Rattle.pgp_ids.specs.declared.member.Member.{Member}
use Rattle.pgp_lists.specs.Ordered.{with_items}
use Rattle.pgp_reasons.specs.Fates.{held_slots, holds_still}
use Rattle.pgp_reasons.proofs.fates.add_held.Given as goal

-- the slots so far, with those of the members that are left, are all that are held
abbrev pub invariant-loop-member : goal.invariant-loop-member
invariant-loop-member g l =
    (goal.iterator-loop-member g).can_next l.member-iterator
    × (goal.iterator-loop-member g).is_finite l.member-iterator
    × (with_items nat_lt (map (λ member. member.slot) (filter (λ member. holds_still l.away (g.S.StatusOf.status_of l.statuses member.osd l.interval.first)) l.member-iterator)) l.slots ≡ with_items nat_lt (held_slots l.away l.by_place (g.S.StatusOf.status_of l.statuses) l.interval) l.initial.slots)
    × All (λ (member : Member). member.slot < 16) l.member-iterator
