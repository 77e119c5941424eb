use Rattle.std.proofs.Common.{[], true, nat_lt, ap, inl, inr, ◌∙◌}
use Rattle.pgp_lists.specs.Ordered.{with_items}
use Rattle.pgp_lists.proofs.Ordered.{nat_order}
use Rattle.pgp_prior.proofs.Lists.{numbers-in_order, walk-starts, walk-next}
use Rattle.pgp_reasons.specs.Fates.{held_slots}
use Rattle.pgp_reasons.proofs.price.slots_left.Goals as goal
use Rattle.pgp_reasons.proofs.price.slots_left.Goals.{then-interval, else-interval}

pub loop-interval-init : goal.loop-interval-init
loop-interval-init g c = walk-starts nat_order numbers-in_order [] [] _ c.args.past.now c.empty-slots.ensures

pub loop-interval-preserved : goal.loop-interval-preserved
loop-interval-preserved g c =
    walk-next nat_order c.args.past.now c.loop-interval.interval-index c.interval-item.result c.loop-interval.invariant c.loop-interval-test.true c.interval-item.is
    (elim c.if-interval.branch [
      | then-interval w ↦ inl (
        w.if-interval.true,
        w.slots-is ∙ w.add_held-slots.ensures
            ∙ ap (λ by_place. with_items nat_lt (held_slots true by_place (g.S.StatusOf.status_of c.args.statuses.now) c.interval-item.result) c.loop-interval.slots) c.by_place-by_place.ensures,
      )
      | else-interval w ↦ inr (w.if-interval.false, w.slots-is)
    ])
