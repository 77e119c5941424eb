use Rattle.std.proofs.Common.{List, ℕ, nat_lt, ap, sym, ◌∙◌}
use Rattle.pgp_lists.specs.Ordered.{with_items}
use Rattle.pgp_prior.proofs.Lists.{numbers-in_order}
use Rattle.pgp_reasons.specs.Fates.{osds_with}
use Rattle.pgp_reasons.proofs.fates.osds_with.Goals as goal

pub returns : goal.returns
returns g c =
    let all : List ℕ = osds_with c.args.wanted c.args.by_place (g.S.StatusOf.status_of c.args.statuses.now) c.args.interval.now in
    c.from_vec.ensures ∙ c.in_ok-add_with.ensures ∙ ap (with_items nat_lt all) c.new-list.ensures.items ∙ sym (numbers-in_order all)
