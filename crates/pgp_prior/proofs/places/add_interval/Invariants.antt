use Rattle.std.proofs.Common.{◌⊎◌, ℕ}
use Rattle.std.specs.List.{Contains}
use Rattle.pgp_ids.specs.declared.member.Member.{Member}
use Rattle.pgp_prior.specs.Members.{members_of}
use Rattle.pgp_prior.specs.kept.Places.{places_of}
use Rattle.pgp_prior.proofs.places.add_interval.Given as goal

-- each member is left, or its device has the place
abbrev pub invariant-loop-member : goal.invariant-loop-member
invariant-loop-member l =
    (goal.iterator-loop-member).can_next l.member-iterator
    × (goal.iterator-loop-member).is_finite l.member-iterator
    × ((member : Member) → Contains (members_of l.by_place l.past.members.acting) member → Contains (places_of l.table member.osd) l.place ⊎ Contains l.member-iterator member)
    × ((q at : ℕ) → Contains (places_of l.initial.table q) at → Contains (places_of l.table q) at)
