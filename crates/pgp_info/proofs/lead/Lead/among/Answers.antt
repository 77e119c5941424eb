use Rattle.std.proofs.Common.{◌+◌, [], ◌∷◌, ◌++◌, take, ap, sym, ◌∙◌}
use Rattle.std.proofs.lemmas.List.{take_more}
use Rattle.pgp_ids.specs.declared.report.Info.{Info}
use Rattle.pgp_info.proofs.BestLemmas.{distinct_take}
use Rattle.pgp_info.proofs.lead.Lead.among.Goals as goal

pub loop-info-init : goal.loop-info-init
loop-info-init g c = λ distinct. c.of_nobody-lead.ensures (g.P.Prefer.better c.args.prefer.now)

pub loop-info-preserved : goal.loop-info-preserved
loop-info-preserved g c = λ distinct.
    let infos = c.args.infos.now in
    let i = c.loop-info.info-index in
    let next = take_more infos i c.info-item.result c.loop-info-test.true ∙ ap (λ (info : Info). take i infos ++ info ∷ []) (sym c.info-item.is) in
    rw next (c.joined_by-lead.ensures (take i infos) (rw (← next) (distinct_take infos (i + 1) distinct)) (c.loop-info.invariant distinct))
