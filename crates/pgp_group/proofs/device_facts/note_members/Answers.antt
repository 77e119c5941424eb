use Rattle.pgp_group.proofs.Common.{inl, inr, Contains-cases}
use Rattle.pgp_group.proofs.device_facts.note_members.Goals as goal

pub loop-member-preserved : goal.loop-member-preserved
loop-member-preserved c = (
  tt,
  tt,
  λ member in'. elim (c.loop-member.invariant.2 member in') [
    | inl has ↦ inl (c.in_ok-note.ensures.kept member.osd has)
    | inr left ↦ elim (Contains-cases c.in-Some.member c.next.new.self member (rw c.in-Some.ensures.steps at left)) [
      | inl here ↦ inl (rw (← here) c.in_ok-note.ensures.ok)
      | inr later ↦ inr later
    ]
  ],
  λ osd has. c.in_ok-note.ensures.kept osd (c.loop-member.invariant.3 osd has),
  λ of_map. c.in_ok-note.ensures.of_map (c.loop-member.invariant.4 of_map),
)
