use Rattle.pgp_group.proofs.Common.{◌≡◌, [], ◌++◌, members_of, is_before}
use Rattle.pgp_lists.specs.Ordered.{IsAscending, with_items}
use Rattle.pgp_group.proofs.PresentLemmas.{left}
use Rattle.pgp_group.proofs.group.best_copy.present_members.Given as goal

-- the list so far, with the members that are left, is the list with all of them
abbrev pub invariant-loop-member : goal.invariant-loop-member
invariant-loop-member l =
    (with_items is_before (left l.member-iterator) l.members.items ≡ with_items is_before (members_of l.by_place l.current.up ++ members_of l.by_place l.current.acting) [])
    × IsAscending is_before l.members.items
