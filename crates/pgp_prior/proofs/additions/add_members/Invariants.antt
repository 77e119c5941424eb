use Rattle.std.proofs.Common.{◌≡◌}
use Rattle.pgp_ids.specs.Member.{is_before}
use Rattle.pgp_lists.specs.Ordered.{IsAscending, with_items}
use Rattle.pgp_prior.specs.Members.{members_of}
use Rattle.pgp_prior.proofs.additions.add_members.Given as goal

-- the list so far, with the members that are left, is the list with all of them
abbrev pub invariant-loop-member : goal.invariant-loop-member
invariant-loop-member l =
    (goal.iterator-loop-member).can_next l.member-iterator
    × (goal.iterator-loop-member).is_finite l.member-iterator
    × (with_items is_before l.member-iterator l.list.items ≡ with_items is_before (members_of l.by_place l.osds) l.initial.list.items)
    × IsAscending is_before l.list.items
