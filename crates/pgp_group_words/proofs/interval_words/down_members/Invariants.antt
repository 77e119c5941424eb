use Rattle.std.proofs.Common.{◌≡◌, ◌++◌}
use Rattle.std.specs.List.{filter}
use Rattle.pgp_reasons.specs.Smallest.{holds}
use Rattle.pgp_group_words.specs.IntervalWords.{down_members}
use Rattle.pgp_group_words.proofs.interval_words.down_members.Given as goal

-- the members so far, with those on the devices that are left, are all
abbrev pub invariant-loop-member : goal.invariant-loop-member
invariant-loop-member l =
    goal.iterator-loop-member.can_next l.member-iterator
    × goal.iterator-loop-member.is_finite l.member-iterator
    × (l.members.items ++ filter (λ member. holds l.interval.down member.osd) l.member-iterator ≡ down_members l.by_place l.interval)
