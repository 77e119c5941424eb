use Rattle.pgp_group.proofs.Common.{◌≡◌, ◌≤◌, ap, arith, length, subst, sym, ◌∙◌, length-map, with_items_is, is_by_place, held_status, renoted, renoted_all, HasEachMember, GivesEach}
use Rattle.pgp_group.proofs.PriorLemmas.{abreast-renewed}
use Rattle.pgp_group.proofs.kept_prior.KeptPrior.renew.Goals as goal

pub returns-clause-abreast : goal.returns-clause-abreast
returns-clause-abreast c = λ g current since is.
    let kept = c.args.self.now in
    let map = c.args.map.now in
    let b = is.basis in
    let lent = c.as_mut_slice.ensures.value in
    let now : c.renew_all.new.noted ≡ renoted_all map kept.noted.items = c.renew_all.ensures.noted ∙ ap (renoted_all map) lent in
    let sized : length c.renew_all.new.noted ≡ kept.noted.len = omega (arith, ap length now, length-map kept.noted.items (renoted map), kept.noted.ok.0) in
    let rises : b.les ≤ c.args.les = let before = is.since in omega arith in
    let renewed = c.renew_all.ensures.index b is.index_is
    (subst (HasEachMember (is_by_place b.code) b.past) (sym lent) is.has_each)
    (subst (GivesEach (is_by_place b.code) b.status b.past) (sym lent) is.gives_each) in
    abreast-renewed g map kept c.set_current.new.self _ is c.args.current c.args.les current since
    (with_items_is kept.noted c.renew_all.new.noted sized ∙ now)
    (c.set_current.ensures (record b { status = held_status map; les = c.args.les }) (c.set_les.ensures (record b { status = held_status map }) renewed rises))
