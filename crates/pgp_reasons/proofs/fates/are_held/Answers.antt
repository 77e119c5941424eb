use Rattle.std.proofs.Common.{List, ℕ, nat_lt, ap, sym, ◌∙◌}
use Rattle.pgp_code.specs.AnyCode.{enough_of, is_by_place}
use Rattle.pgp_lists.specs.Ordered.{with_items}
use Rattle.pgp_prior.proofs.Lists.{numbers-in_order}
use Rattle.pgp_reasons.specs.Fates.{held_slots}
use Rattle.pgp_reasons.proofs.fates.are_held.Goals as goal

pub returns : goal.returns
returns g c =
    let all : List ℕ = held_slots c.args.away (is_by_place c.args.code.now) (g.S.StatusOf.status_of c.args.statuses.now) c.args.interval.now in
    c.enough.ensures
    ∙ ap (enough_of c.args.code.now) (c.add_held-slots.ensures ∙ (λ i. with_items nat_lt (held_slots c.args.away (c.by_place.ensures i) (g.S.StatusOf.status_of c.args.statuses.now) c.args.interval.now) (c.empty.ensures i)) ∙ sym (numbers-in_order all))
