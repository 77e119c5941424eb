use Rattle.std.proofs.Common.{◌≡◌, true}
use Rattle.pgp_ids.specs.Member.{is_before}
use Rattle.pgp_lists.proofs.Ordered.{IsAscending-with_item}
use Rattle.pgp_prior.specs.MemberOrder.{member_order}
use Rattle.pgp_prior.specs.Blocks.{is_up_status}
use Rattle.pgp_prior.proofs.additions.add_up.Goals as goal

pub loop-member-preserved-in-Continue-1 : goal.loop-member-preserved-in-Continue-1
loop-member-preserved-in-Continue-1 g c =
    let put = c.in_ok-insert_in_order.ensures.ok in
    let up : is_up_status (g.S.StatusOf.status_of c.args.statuses.now c.in-Some.member.osd c.args.past.now.first) ≡ true = rw (← c.status.ensures, ← c.is_up.ensures) c.if-is_up.true in
    let left = rw (c.in-Some.ensures.steps, up) at c.loop-member.invariant.2 in
    (tt, tt, rw put left, rw put (IsAscending-with_item is_before member_order.transitive c.in-Some.member c.loop-member.list.items c.loop-member.invariant.3))
