use Rattle.std.proofs.Common.{◌≡◌, nat_lt, map}
use Rattle.std.specs.List.{filter}
use Rattle.pgp_lists.specs.Ordered.{IsAscending, with_items}
use Rattle.pgp_reasons.specs.Fates.{is_status, osds_with}
use Rattle.pgp_reasons.proofs.fates.add_with.Given as goal

-- the list so far, with those of the members that are left which have the status, is the list of all that have it
abbrev pub invariant-loop-member : goal.invariant-loop-member
invariant-loop-member g l =
    (goal.iterator-loop-member g).can_next l.member-iterator
    × (goal.iterator-loop-member g).is_finite l.member-iterator
    × (with_items nat_lt (map (λ member. member.osd) (filter (λ member. is_status l.wanted (g.S.StatusOf.status_of l.statuses member.osd l.interval.first)) l.member-iterator)) l.list.items ≡ with_items nat_lt (osds_with l.wanted l.by_place (g.S.StatusOf.status_of l.statuses) l.interval) l.initial.list.items)
    × IsAscending nat_lt l.list.items
