use Rattle.std.proofs.Common.{[], ap, inl, inr, arith, vec_items}
use Rattle.std.proofs.lemmas.Bool.Decides.{nat_tests}
use Rattle.pgp_lists.proofs.Ordered.{nat_order}
use Rattle.pgp_prior.proofs.Lists.{numbers-in_order, walk-starts, walk-next}
use Rattle.pgp_reasons.proofs.short.short_of.Goals as goal
use Rattle.pgp_reasons.proofs.short.short_of.Goals.{then-le+in_ok-add_with, else-le}

pub loop-interval-init : goal.loop-interval-init
loop-interval-init c = walk-starts nat_order numbers-in_order [] [] _ c.as_slice-past.result.now c.new-fallen.ensures.items

pub loop-interval-preserved : goal.loop-interval-preserved
loop-interval-preserved c =
    walk-next nat_order c.as_slice-past.result.now c.loop-interval.interval-index c.interval-item.result c.loop-interval.invariant c.loop-interval-test.true c.interval-item.is
    (elim c.if-le.branch [
      | then-le+in_ok-add_with w ↦ inl (grind (arith, nat_tests), rw w.fallen-is w.in_ok-add_with.ensures)
      | else-le w ↦ inr (grind (arith, nat_tests), ap vec_items w.fallen-is)
    ])
