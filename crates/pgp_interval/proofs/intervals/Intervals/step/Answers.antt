use Rattle.std.proofs.Common.{◌≡◌, ◌+◌, ◌-◌, ◌∙◌, not, sym, subst, rules, arith}
use Rattle.std.proofs.lemmas.Bool.{not-true, not-false}
use Rattle.pgp_interval.specs.SameMembers.{is_same}
use Rattle.pgp_interval.specs.IntervalsOf.{Running, IsIntervalsOf}
use Rattle.pgp_interval.proofs.RunningLemmas.{stays, is_over, clean_until}
use Rattle.pgp_interval.proofs.intervals.Intervals.step.Goals as goal
use Rattle.pgp_interval.proofs.intervals.Intervals.step.Goals.{then-ne+in_ok-reserve, else-ne}

pub returns-clause-ok : goal.returns-clause-ok
returns-clause-ok g c = λ h cleans passed is later.
    let enough = g.R.Recoverable.enough in
    let by_place = g.R.Recoverable.by_place in
    let was = subst (λ (r : Running g.row.R.Denot). IsIntervalsOf enough by_place h cleans r × (c.args.epoch ≡ r.last + passed + 1)) (sym c.self.view_is) (is, later) in
    let differs : c.ne.result ≡ not (is_same c.self.inside.current c.args.members) = search rules in
    elim c.if-ne.branch [
      | then-ne+in_ok-reserve w ↦
          let clean = clean_until enough by_place cleans h _ was.0 (c.args.epoch - 1) (omega (arith, was.1)) in
          rw (w.self-inside-is, w.push_reserved.ensures.items, w.in_ok-reserve.ensures.items, w.may_have_gone_rw-rw.ensures, w.before-then-ne.ensures, w.replace-members.ensures.value, w.replace-members.ensures.after, clean)
          (is_over enough by_place cleans h _ was.0 passed c.args.members c.args.facts c.args.epoch was.1 (not-true _ (sym differs ∙ w.if-ne.true)))
      | else-ne w ↦
          rw w.self-inside-is (stays enough by_place cleans h _ was.0 passed c.args.members c.args.facts c.args.epoch was.1 (not-false _ (sym differs ∙ w.if-ne.false)))
    ]
