use Rattle.std.proofs.Common.{arith, sym}
use Rattle.pgp_lists.proofs.Repeats.{repeat-fresh, repeat-found, seen-more}
use Rattle.pgp_lists.proofs.twice.has_repeat.Goals as goal

pub loop-item-preserved : goal.loop-item-preserved
loop-item-preserved g c =
    record {
      seen_is = λ q. seen-more g.T.PartialEq.eq g.met.T.Eq.laws.symm c.args.items.now c.loop-item.item-index c.item-item.result q _ _ (omega arith) c.item-item.is
          (c.loop-item.invariant.seen_is q) (c.in_ok-insert.ensures.updates.0 q);
      fresh = repeat-fresh g.T.PartialEq.eq g.met.T.Eq.laws.symm c.args.items.now c.loop-item.item-index c.item-item.result _ _ (omega arith) c.item-item.is c.loop-item.invariant.fresh
          (c.loop-item.invariant.seen_is c.item-item.result) c.in_ok-insert.ensures.added c.if-not-branch.false;
    }

pub returns-then-not-branch : goal.returns-then-not-branch
returns-then-not-branch g c =
    sym (repeat-found g.T.PartialEq.eq g.met.T.Eq.laws.symm c.args.items.now c.loop-item.item-index c.item-item.result _ _ (omega arith) c.item-item.is
    (c.loop-item.invariant.seen_is c.item-item.result) c.in_ok-insert.ensures.added c.if-not-branch.true)
