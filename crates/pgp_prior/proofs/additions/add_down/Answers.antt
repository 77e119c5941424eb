use Rattle.std.proofs.Common.{◌≡◌, nat_lt, true, ◌∙◌}
use Rattle.pgp_lists.specs.Ordered.{with_item}
use Rattle.pgp_lists.proofs.Ordered.{nat_order, IsAscending-with_item}
use Rattle.pgp_prior.specs.Blocks.{is_down}
use Rattle.pgp_prior.proofs.Lists.{with_number}
use Rattle.pgp_prior.proofs.additions.add_down.Goals as goal

pub loop-member-preserved-in-Continue-1 : goal.loop-member-preserved-in-Continue-1
loop-member-preserved-in-Continue-1 g c =
    let osd = c.in-Some.member.osd in
    let put : c.insert_in_order.new.list.items ≡ with_item nat_lt osd c.loop-member.list.items = c.in_ok-insert_in_order.ensures.ok ∙ with_number osd c.loop-member.list.items in
    let down : is_down (g.S.StatusOf.status_of c.args.statuses.now osd c.args.past.now.first) ≡ true = rw (← c.status.ensures, ← c.is_down.ensures) c.if-is_down.true in
    let left = rw (c.in-Some.ensures.steps, down) at c.loop-member.invariant.2 in
    (tt, tt, rw put left, rw put (IsAscending-with_item nat_lt nat_order.transitive osd c.loop-member.list.items c.loop-member.invariant.3))
