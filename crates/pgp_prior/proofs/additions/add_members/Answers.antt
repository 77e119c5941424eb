use Rattle.pgp_ids.specs.Member.{is_before}
use Rattle.pgp_lists.proofs.Ordered.{IsAscending-with_item}
use Rattle.pgp_prior.specs.MemberOrder.{member_order}
use Rattle.pgp_prior.proofs.additions.add_members.Goals as goal

pub loop-member-preserved : goal.loop-member-preserved
loop-member-preserved c =
    let put = c.in_ok-insert_in_order.ensures.ok in
    let left = rw c.in-Some.ensures.steps at c.loop-member.invariant.2 in
    (tt, tt, rw put left, rw put (IsAscending-with_item is_before member_order.transitive c.in-Some.member c.loop-member.list.items c.loop-member.invariant.3))
