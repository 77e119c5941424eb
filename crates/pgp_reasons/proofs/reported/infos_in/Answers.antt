use Rattle.std.proofs.Common.{◌≡◌, ℕ, List, [], ◌∷◌, ◌++◌, Some, None, map, ap, sym, ◌∙◌}
use Rattle.std.specs.Arc.{arc_value}
use Rattle.std.specs.List.{filter_map}
use Rattle.std.proofs.lemmas.List.{take_all}
use Rattle.pgp_ids.specs.declared.report.Info.{Info}
use Rattle.pgp_reasons.specs.Reported.{info_in}
use Rattle.pgp_reasons.proofs.ListLemmas.{found-next, missed-next}
use Rattle.pgp_reasons.proofs.ReportedLemmas.{reported-infos}
use Rattle.pgp_reasons.proofs.reported.infos_in.Goals as goal
use Rattle.pgp_reasons.proofs.reported.infos_in.Goals.{in-Some+in_ok-push, in_default}

pub loop-entry-preserved : goal.loop-entry-preserved
loop-entry-preserved c =
    let pg = c.args.pg.now in
    let entries = c.args.entries.now in
    let i : ℕ = c.loop-entry.entry-index in
    let entry = c.entry-item.result in
    elim c.match-info_in.branch [
      | in-Some+in_ok-push w ↦
          let info : Info = w.in-Some.info in
          let found : info_in pg (arc_value entry) ≡ Some info = ap (info_in pg) (sym c.deref.ensures) ∙ sym w.in-Some.ensures in
          rw w.infos-is (w.in_ok-push.ensures.items ∙ ap (λ (l : List Info). l ++ info ∷ []) c.loop-entry.invariant
          ∙ sym (found-next (info_in pg) arc_value entries i entry info c.loop-entry-test.true c.entry-item.is found))
      | in_default w ↦
          let missed : info_in pg (arc_value entry) ≡ None = ap (info_in pg) (sym c.deref.ensures) ∙ sym w.in_default.ensures in
          rw w.infos-is (c.loop-entry.invariant
          ∙ sym (missed-next (info_in pg) arc_value entries i entry c.loop-entry-test.true c.entry-item.is missed))
    ]

pub returns : goal.returns
returns c =
    let pg = c.args.pg.now in
    c.from_vec.ensures ∙ c.loop-entry.invariant
    ∙ ap (λ l. filter_map (info_in pg) (map arc_value l)) (take_all c.loop-entry.entry-index c.args.entries.now c.loop-entry-test.false)
    ∙ sym (reported-infos pg (map arc_value c.args.entries.now))
