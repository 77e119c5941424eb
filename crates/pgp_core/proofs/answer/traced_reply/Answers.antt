use Rattle.std.proofs.Common.{[], ◌∷◌, ◌++◌, sym, ap, ◌∙◌, append_assoc, arith}
use Rattle.pgp_code.specs.Pool.{code_of}
use Rattle.pgp_ids.specs.declared.history.EpochState.{EpochState}
use Rattle.pgp_core.proofs.HistoryLemmas.{last-push, trace-push}
use Rattle.pgp_core.proofs.answer.traced_reply.Goals as goal

pub loop-state-preserved : goal.loop-state-preserved
loop-state-preserved c =
    let invariant = c.loop-state.invariant in
    let opening = invariant.2 in
    let yielded = c.loop-state.yielded in
    let state = c.in-Some-state.state in (
      tt,
      tt,
      opening,
      ap (λ l. opening ∷ l) (append_assoc yielded (state ∷ []) _ ∙ ap (λ l. yielded ++ l) (sym c.in-Some-state.ensures.steps.0)) ∙ invariant.3,
      rw (invariant.5, trace-push (code_of c.args.kind) opening yielded state) at (c.in_ok-step.ensures.ok _ [] 0 invariant.4 (c.new-epoch.ensures ∙ omega (arith, c.number.ensures, c.last.ensures))),
      ap (λ (s : EpochState). s.facts) (sym (last-push opening yielded state)),
    )
