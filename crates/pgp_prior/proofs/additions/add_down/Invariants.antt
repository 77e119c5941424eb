use Rattle.std.proofs.Common.{◌≡◌, nat_lt, map}
use Rattle.std.specs.List.{filter}
use Rattle.pgp_lists.specs.Ordered.{IsAscending, with_items}
use Rattle.pgp_prior.specs.Blocks.{is_down, down_osds}
use Rattle.pgp_prior.proofs.additions.add_down.Given as goal

-- the list so far, with the devices that are left and down, is the list with all that are down
abbrev pub invariant-loop-member : goal.invariant-loop-member
invariant-loop-member g l =
    (goal.iterator-loop-member g).can_next l.member-iterator
    × (goal.iterator-loop-member g).is_finite l.member-iterator
    × (with_items nat_lt (map (λ member. member.osd) (filter (λ member. is_down (g.S.StatusOf.status_of l.statuses member.osd l.past.first)) l.member-iterator)) l.list.items ≡ with_items nat_lt (down_osds l.by_place (g.S.StatusOf.status_of l.statuses) l.past) l.initial.list.items)
    × IsAscending nat_lt l.list.items
