use Rattle.pgp_group.proofs.Common.{sym, ◌++◌, ◌∙◌, is_before, members_of}
use Rattle.pgp_lists.proofs.Ordered.{IsAscending-with_item}
use Rattle.pgp_prior.specs.MemberOrder.{member_order}
use Rattle.pgp_prior.proofs.Lists.{members-in_order}
use Rattle.pgp_group.proofs.PresentLemmas.{left-next, left-done}
use Rattle.pgp_group.proofs.group.best_copy.present_members.Goals as goal

pub loop-member-preserved : goal.loop-member-preserved
loop-member-preserved c =
    let put = c.in_ok-insert_in_order.ensures.ok in
    let next = rw (left-next _ _ c.in-Some.member c.in-Some.ensures.steps) at c.loop-member.invariant.0 in
    (rw put next, rw put (IsAscending-with_item is_before member_order.transitive c.in-Some.member c.loop-member.members.items c.loop-member.invariant.1))

pub returns : goal.returns
returns c =
    let all = rw (left-done _ _ c.in-None.ensures.steps) at c.loop-member.invariant.0 in
    all ∙ sym (members-in_order (members_of c.args.by_place c.args.current.now.up ++ members_of c.args.by_place c.args.current.now.acting))
