use Rattle.std.proofs.Common.{[], refl, ap, ◌∙◌, inl, inr, vec_items}
use Rattle.std.proofs.lemmas.List.{drop_all}
use Rattle.pgp_ids.specs.Member.{is_before}
use Rattle.pgp_lists.proofs.Ordered.{nat_order}
use Rattle.pgp_prior.specs.MemberOrder.{member_order}
use Rattle.pgp_prior.specs.Members.{members_of}
use Rattle.pgp_prior.proofs.Lists.{members-in_order, numbers-in_order, first-ascends, walk-starts, walk-next}
use Rattle.pgp_prior.proofs.PriorLemmas.{prior-by_lists}
use Rattle.pgp_prior.proofs.walk.prior.Goals as goal
use Rattle.pgp_prior.proofs.walk.prior.Goals.{then-matters+in_ok-add_up, else-matters, then-blocks+in_ok-add_down, else-blocks}

pub add_members-requires-2 : goal.add_members-requires-2
add_members-requires-2 g c = first-ascends is_before member_order (members_of c.by_place-by_place.result c.args.current.now.up) _ _ c.new-probe.ensures.items c.in_ok-add_members.ensures

pub loop-interval-init : goal.loop-interval-init
loop-interval-init g c =
    let by_place = g.R.Recoverable.by_place c.args.code.now in (
      walk-starts member_order members-in_order (members_of by_place c.args.current.now.up) (members_of by_place c.args.current.now.acting) _ c.args.past.now
          (rw (c.in_ok-add_members-2.ensures, c.in_ok-add_members.ensures, c.new-probe.ensures.items, c.by_place-by_place.ensures) refl),
      walk-starts nat_order numbers-in_order [] [] _ c.args.past.now c.new-blocked_by.ensures.items,
    )

pub loop-interval-preserved : goal.loop-interval-preserved
loop-interval-preserved g c = (
  walk-next member_order c.args.past.now c.loop-interval.interval-index c.interval-item.result c.loop-interval.invariant.0 c.loop-interval-test.true c.interval-item.is
      (elim c.if-matters.branch [
        | then-matters+in_ok-add_up w ↦ inl (rw c.matters.ensures at w.if-matters.true, rw (w.probe-is, ← c.by_place-by_place.ensures) w.in_ok-add_up.ensures)
        | else-matters w ↦ inr (rw c.matters.ensures at w.if-matters.false, ap vec_items w.probe-is)
      ]),
  walk-next nat_order c.args.past.now c.loop-interval.interval-index c.interval-item.result c.loop-interval.invariant.1 c.loop-interval-test.true c.interval-item.is
      (elim c.if-blocks.branch [
        | then-blocks+in_ok-add_down w ↦ inl (rw c.blocks-in-loop-interval.ensures at w.if-blocks.true, rw (w.blocked_by-is, ← c.by_place-by_place.ensures) w.in_ok-add_down.ensures)
        | else-blocks w ↦ inr (rw c.blocks-in-loop-interval.ensures at w.if-blocks.false, ap vec_items w.blocked_by-is)
      ]),
)

pub add_up-requires : goal.add_up-requires
add_up-requires g c = c.loop-interval.invariant.0.ascends

pub add_down-requires : goal.add_down-requires
add_down-requires g c = c.loop-interval.invariant.1.ascends

pub returns : goal.returns
returns g c =
    let none = drop_all c.loop-interval.interval-index c.args.past.now c.loop-interval-test.false in
    prior-by_lists (g.R.Recoverable.enough c.args.code.now) (g.R.Recoverable.by_place c.args.code.now) (g.S.StatusOf.status_of c.args.statuses.now) c.args.les c.args.past.now c.args.current.now
    c.from_vec.result c.from_vec-blocked_by.result c.is_empty-down.result
    (c.from_vec.ensures ∙ (rw none at c.loop-interval.invariant.0.gives))
    (c.from_vec-blocked_by.ensures ∙ (rw none at c.loop-interval.invariant.1.gives))
    c.is_empty-down.ensures
