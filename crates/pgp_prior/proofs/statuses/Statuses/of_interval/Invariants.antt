use Rattle.std.proofs.Common.{◌≡◌, ◌++◌, map}
use Rattle.pgp_prior.specs.Members.{members_of}
use Rattle.pgp_prior.specs.kept.KnownStatuses.{known_of}
use Rattle.pgp_prior.proofs.statuses.Statuses.of_interval.Given as goal

-- what is known so far, with the members that are left, is what is known of all
abbrev pub invariant-loop-member : goal.invariant-loop-member
invariant-loop-member g l =
    (goal.iterator-loop-member g).can_next l.member-iterator
    × (goal.iterator-loop-member g).is_finite l.member-iterator
    × (l.known.items ++ map (known_of (g.S.StatusOf.status_of l.statuses) l.past.first) l.member-iterator ≡ map (known_of (g.S.StatusOf.status_of l.statuses) l.past.first) (members_of l.by_place l.past.members.acting))
