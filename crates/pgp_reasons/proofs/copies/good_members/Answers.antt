use Rattle.std.proofs.Common.{map, ap, refl, rules, sym, ◌∙◌, inl, inr}
use Rattle.std.specs.List.{filter}
use Rattle.pgp_ids.specs.Member.{is_before}
use Rattle.pgp_ids.specs.declared.report.Info.{Info}
use Rattle.pgp_lists.specs.Ordered.{with_items}
use Rattle.pgp_lists.proofs.Ordered.{IsAscending-with_item}
use Rattle.pgp_prior.specs.MemberOrder.{member_order}
use Rattle.pgp_prior.proofs.Lists.{members-in_order}
use Rattle.pgp_reasons.specs.Copies.{is_as_good}
use Rattle.pgp_reasons.proofs.CopiesLemmas.{put-next}
use Rattle.pgp_reasons.proofs.copies.good_members.Goals as goal
use Rattle.pgp_reasons.proofs.copies.good_members.Goals.{then-is_as_good+in_ok-insert_in_order, else-is_as_good}

pub loop-info-init : goal.loop-info-init
loop-info-init c =
    let all = map (λ (info : Info). info.member) (filter (is_as_good c.in-Some.good.now) c.args.infos.now) in
    record { left = ap (with_items is_before all) c.new-members.ensures.items ∙ sym (members-in_order all); order = search rules }

pub loop-info-preserved : goal.loop-info-preserved
loop-info-preserved c =
    let next = put-next is_before (λ info. info.member) (is_as_good c.in-Some.good.now) c.args.infos.now c.loop-info.info-index c.info-item.result c.loop-info.members.items in
    elim c.if-is_as_good.branch [
      | then-is_as_good+in_ok-insert_in_order w ↦ rw w.members-is (record {
        left = next _ _ c.loop-info-test.true c.info-item.is c.loop-info.invariant.left (inl (sym c.is_as_good.ensures ∙ w.if-is_as_good.true, w.in_ok-insert_in_order.ensures.ok));
        order = rw w.in_ok-insert_in_order.ensures.ok (IsAscending-with_item is_before member_order.transitive _ c.loop-info.members.items c.loop-info.invariant.order);
      })
      | else-is_as_good w ↦ rw w.members-is (record {
        left = next _ _ c.loop-info-test.true c.info-item.is c.loop-info.invariant.left (inr (sym c.is_as_good.ensures ∙ w.if-is_as_good.false, refl));
        order = c.loop-info.invariant.order;
      })
    ]
