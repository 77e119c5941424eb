use Rattle.pgp_group.proofs.Common.{◌≡◌, ◌+◌, ap, arith, get_or, set, subst, sym, take, ◌∙◌, enough_of, is_by_place, IsChange, IsIndexOf, held_status, renoted, allows_turn, DeviceFacts}
use Rattle.std.proofs.lemmas.List.Edits.{map_over_more}
use Rattle.pgp_group.proofs.NotedLemmas.{index-agree, partly, partly-all, partly-change, partly-same}
use Rattle.pgp_group.proofs.Lists.{under_way}
use Rattle.pgp_group.proofs.device_facts.renew_all.Goals as goal
use Rattle.pgp_group.proofs.device_facts.renew_all.Goals.{then-not-is_same, else-not-is_same}

pub loop-entry-preserved : goal.loop-entry-preserved
loop-entry-preserved c =
    let map = c.args.map.now in
    let all = c.args.noted.now in
    let now = c.loop-entry.noted in
    let i = c.loop-entry.entry-index in
    let x = c.entry-item.result in
    let within = c.loop-entry-test.true in
    let so_far = c.loop-entry.invariant in
    let said : c.of-now.result ≡ renoted map x = c.of-now.ensures ∙ ap (renoted map) (sym c.entry-item.is) in
    let more = map_over_more (renoted map) all now i x within so_far.noted c.entry-item.is in
    let item : x ≡ get_or all i x = c.entry-item.is ∙ under_way (renoted map) all now i x within so_far.noted in
    elim c.if-not-is_same.branch [
      | then-not-is_same w ↦ record {
        noted = w.noted-is ∙ ap (set now i) said ∙ more;
        index = λ b is gives.
            let old = partly map (take i all) b.status in
            let new = partly map (take (i + 1) all) b.status in
            subst (IsIndexOf enough_of is_by_place (record b { status = new })) (sym w.index-is)
            (w.renew.ensures (record b { status = old }) new (so_far.index b is gives)
            (subst (λ (e : DeviceFacts). IsChange (allows_turn e c.of-now.result) (is_by_place b.code) c.of-now.result.osd (held_status map) old new b.past) c.entry-item.is
            (subst (λ (e : DeviceFacts). IsChange (allows_turn x e) (is_by_place b.code) e.osd (held_status map) old new b.past) (sym said)
            (partly-change map all i x within item b.status (is_by_place b.code) b.past gives))));
      }
      | else-not-is_same w ↦
          let as_before : renoted map x ≡ x = sym said ∙ c.is_same.ensures.same w.if-not-is_same.false ∙ sym c.entry-item.is in
          record {
            noted = w.noted-is ∙ ap (set now i) (sym c.entry-item.is ∙ sym as_before) ∙ more;
            index = λ b is gives.
                let old = partly map (take i all) b.status in
                let new = partly map (take (i + 1) all) b.status in
                subst (IsIndexOf enough_of is_by_place (record b { status = new })) (sym w.index-is)
                (index-agree (record b { status = old }) new c.loop-entry.index (so_far.index b is gives)
                (partly-same map all i x within item b.status (is_by_place b.code) b.past as_before gives));
          }
    ]

pub returns-clause-index : goal.returns-clause-index
returns-clause-index c = λ b is has gives.
    let map = c.args.map.now in
    let all = c.args.noted.now in
    let i = c.loop-entry.entry-index in
    index-agree (record b { status = partly map (take i all) b.status }) (held_status map) c.loop-entry.index (c.loop-entry.invariant.index b is gives)
    (partly-all map all i b.status (is_by_place b.code) b.past (omega arith) has)
