use Rattle.std.proofs.Common.{◌≡◌, ◌-◌, ◌≤◌, length}
use Rattle.std.specs.List.{filter_map, range_with_len}
use Rattle.pgp_prior.specs.Members.{held_member}
use Rattle.pgp_prior.proofs.members.MembersIterator.next.Given as goal

-- only empty places were passed over
abbrev pub invariant-loop-held : goal.invariant-loop-held
invariant-loop-held l =
    (length l.self-inside.places.now ≤ 16)
    × (filter_map (held_member l.self-inside.by_place l.self-inside.places.now)
    (range_with_len l.self-inside.place (length l.self-inside.places.now - l.self-inside.place)) ≡ l.fn.self)

abbrev pub decreases-loop-held : goal.decreases-loop-held
decreases-loop-held l = length l.self-inside.places.now - l.self-inside.place
