use Rattle.std.proofs.Common.{inl, inr}
use Rattle.pgp_lists.proofs.Members.{Contains-nil, Contains-cases}
use Rattle.pgp_prior.proofs.places.add_interval.Goals as goal

pub loop-member-preserved : goal.loop-member-preserved
loop-member-preserved c = (
  tt,
  tt,
  λ member in'. elim (c.loop-member.invariant.2 member in') [
    | inl has ↦ inl (c.in_ok-add_place.ensures.kept member.osd c.args.place has)
    | inr left ↦ elim (Contains-cases c.in-Some.member c.next.new.self member (rw c.in-Some.ensures.steps at left)) [
      | inl here ↦ inl (rw (← here) c.in_ok-add_place.ensures.added)
      | inr later ↦ inr later
    ]
  ],
  λ q at in'. c.in_ok-add_place.ensures.kept q at (c.loop-member.invariant.3 q at in'),
)

pub returns-clause-added : goal.returns-clause-added
returns-clause-added c = λ member in'. elim (c.loop-member.invariant.2 member in') [
  | inl has ↦ has
  | inr left ↦ absurd (Contains-nil member (rw c.in-None.ensures.steps.0 at left))
]
