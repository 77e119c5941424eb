use Rattle.std.proofs.Common.{[], refl, ap, ◌∙◌, inl, inr, vec_items}
use Rattle.std.proofs.lemmas.List.{drop_all}
use Rattle.pgp_ids.specs.Member.{is_before}
use Rattle.pgp_lists.proofs.Ordered.{nat_order}
use Rattle.pgp_prior.specs.MemberOrder.{member_order}
use Rattle.pgp_prior.specs.Members.{members_of}
use Rattle.pgp_prior.proofs.BasisLemmas.{index-prior}
use Rattle.pgp_prior.proofs.Lists.{members-in_order, numbers-in_order, first-ascends, walk-starts, walk-next}
use Rattle.pgp_prior.proofs.index.PriorIndex.prior.Goals as goal
use Rattle.pgp_prior.proofs.index.PriorIndex.prior.Goals.{then-matters+in_ok-add_up, else-matters, then-kept+in_ok-add_down, else-kept}

pub add_members-requires-2 : goal.add_members-requires-2
add_members-requires-2 g c = first-ascends is_before member_order (members_of c.by_place-by_place.result c.args.self.now.current.up) _ _ c.new-probe.ensures.items c.in_ok-add_members.ensures

pub loop-kept-init : goal.loop-kept-init
loop-kept-init g c =
    let by_place = c.by_place-by_place.result in
    let current = c.args.self.now.current in (
      walk-starts member_order members-in_order (members_of by_place current.up) (members_of by_place current.acting) _ c.as_slice-kept-items.result.now
          (rw (c.in_ok-add_members-2.ensures, c.in_ok-add_members.ensures, c.new-probe.ensures.items) refl),
      walk-starts nat_order numbers-in_order [] [] _ c.as_slice-kept-items.result.now c.new-blocked_by.ensures.items,
    )

pub loop-kept-preserved : goal.loop-kept-preserved
loop-kept-preserved g c = (
  walk-next member_order c.as_slice-kept-items.result.now c.loop-kept.kept-index c.kept-item.result c.loop-kept.invariant.0 c.loop-kept-test.true c.kept-item.is
      (elim c.if-matters.branch [
        | then-matters+in_ok-add_up w ↦ inl (rw c.matters.ensures at w.if-matters.true, rw w.probe-is w.in_ok-add_up.ensures)
        | else-matters w ↦ inr (rw c.matters.ensures at w.if-matters.false, ap vec_items w.probe-is)
      ]),
  walk-next nat_order c.as_slice-kept-items.result.now c.loop-kept.kept-index c.kept-item.result c.loop-kept.invariant.1 c.loop-kept-test.true c.kept-item.is
      (elim c.if-kept.branch [
        | then-kept+in_ok-add_down w ↦ inl (w.if-kept.true, rw w.blocked_by-is w.in_ok-add_down.ensures)
        | else-kept w ↦ inr (w.if-kept.false, ap vec_items w.blocked_by-is)
      ]),
)

pub add_up-requires : goal.add_up-requires
add_up-requires g c = c.loop-kept.invariant.0.ascends

pub add_down-requires : goal.add_down-requires
add_down-requires g c = c.loop-kept.invariant.1.ascends

pub returns : goal.returns
returns g c = λ b is.
    let none = drop_all c.loop-kept.kept-index c.as_slice-kept-items.result.now c.loop-kept-test.false in
    let probe = rw (none, c.by_place-by_place.ensures, c.as_slice-kept-items.ensures.value) at c.loop-kept.invariant.0.gives in
    let blocked_by = rw (none, c.by_place-by_place.ensures, c.as_slice-kept-items.ensures.value) at c.loop-kept.invariant.1.gives in
    index-prior g.R.Recoverable.enough g.R.Recoverable.by_place b c.args.self.now is c.from_vec.result c.from_vec-blocked_by.result c.is_empty-down.result
    (c.from_vec.ensures ∙ probe) (c.from_vec-blocked_by.ensures ∙ blocked_by) c.is_empty-down.ensures
