use Rattle.pgp_group.proofs.Common.{◌≡◌, ◌⊎◌, ℕ, true, Contains, Member, members_of, has_noted, AreOfMap}
use Rattle.pgp_group.proofs.device_facts.note_members.Given as goal

-- each member is left, or noted
abbrev pub invariant-loop-member : goal.invariant-loop-member
invariant-loop-member l =
    (goal.iterator-loop-member).can_next l.member-iterator
    × (goal.iterator-loop-member).is_finite l.member-iterator
    × ((member : Member) → Contains (members_of l.by_place l.past.members.acting) member → (has_noted member.osd l.noted.items ≡ true) ⊎ Contains l.member-iterator member)
    × ((osd : ℕ) → has_noted osd l.initial.noted.items ≡ true → has_noted osd l.noted.items ≡ true)
    × (AreOfMap l.map l.initial.noted.items → AreOfMap l.map l.noted.items)
