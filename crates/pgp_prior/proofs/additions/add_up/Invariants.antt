use Rattle.std.proofs.Common.{◌≡◌}
use Rattle.std.specs.List.{filter}
use Rattle.pgp_ids.specs.Member.{is_before}
use Rattle.pgp_lists.specs.Ordered.{IsAscending, with_items}
use Rattle.pgp_prior.specs.Blocks.{is_up_status, acting_where}
use Rattle.pgp_prior.proofs.additions.add_up.Given as goal

-- the list so far, with the members that are left and up, is the list with all that are up
abbrev pub invariant-loop-member : goal.invariant-loop-member
invariant-loop-member g l =
    (goal.iterator-loop-member g).can_next l.member-iterator
    × (goal.iterator-loop-member g).is_finite l.member-iterator
    × (with_items is_before (filter (λ member. is_up_status (g.S.StatusOf.status_of l.statuses member.osd l.past.first)) l.member-iterator) l.list.items ≡ with_items is_before (acting_where is_up_status l.by_place (g.S.StatusOf.status_of l.statuses) l.past) l.initial.list.items)
    × IsAscending is_before l.list.items
