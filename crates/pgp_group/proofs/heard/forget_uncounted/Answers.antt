use Rattle.pgp_group.proofs.Common.{◌<◌, List, length, ap, subst, sym, ◌∙◌, Contains, filter, Info, HasDistinctMembers, Heard, distinct_without, Preference}
use Rattle.pgp_group.specs.Heard.{counts}
use Rattle.pgp_group.proofs.PeerLemmas.{passing-without, shorter-without}
use Rattle.pgp_group.proofs.heard.forget_uncounted.Goals as goal

pub loop-info-preserved : goal.loop-info-preserved
loop-info-preserved c =
    let now = c.loop-info.best in
    let info = c.in-Some.info in
    let there : Contains now.infos info = subst (λ (l : List Info). Contains l info) c.infos.ensures c.in-Some.ensures.there in
    record {
      prefer = ap (λ (h : Heard Preference). h.prefer) c.drop_member.ensures ∙ c.loop-info.invariant.prefer;
      left = λ g here distinct.
          let was = c.loop-info.invariant.left g here distinct in
          let fails = c.in-Some.ensures.uncounted g here in (
            subst (λ (h : Heard Preference). HasDistinctMembers h.infos) (sym c.drop_member.ensures) (distinct_without info.member now.infos was.0),
            ap (λ (h : Heard Preference). filter (counts g) h.infos) c.drop_member.ensures
                ∙ passing-without (counts g) now.infos info was.0 there fails
                ∙ was.1,
          );
    }

pub loop-info-smaller : goal.loop-info-smaller
loop-info-smaller c =
    let now = c.loop-info.best in
    let info = c.in-Some.info in
    let there : Contains now.infos info = subst (λ (l : List Info). Contains l info) c.infos.ensures c.in-Some.ensures.there in
    subst (λ (h : Heard Preference). length h.infos < length now.infos) (sym c.drop_member.ensures) (shorter-without now.infos info there)
