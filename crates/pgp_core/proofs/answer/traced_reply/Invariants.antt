use Rattle.std.proofs.Common.{◌≡◌, [], ◌∷◌, ◌++◌}
use Rattle.std.specs.Vec.Iter.{into_iter_items}
use Rattle.pgp_code.specs.AnyCode.{enough_of, is_by_place}
use Rattle.pgp_code.specs.Pool.{code_of}
use Rattle.pgp_ids.specs.declared.history.EpochState.{EpochState}
use Rattle.pgp_interval.specs.IntervalsOf.{IsIntervalsOf}
use Rattle.pgp_core.specs.TraceHistory.{last_state, trace_history}
use Rattle.pgp_core.proofs.answer.traced_reply.Given as goal

-- the history so far is that of the epochs so far
abbrev pub invariant-loop-state : goal.invariant-loop-state
invariant-loop-state l =
    (goal.iterator-loop-state).can_next l.state-iterator ×
    (goal.iterator-loop-state).is_finite l.state-iterator ×
    (opening : EpochState) ×
    (opening ∷ (l.yielded ++ into_iter_items l.state-iterator) ≡ l.fn.epochs) ×
    IsIntervalsOf enough_of is_by_place (trace_history (code_of l.fn.kind) opening l.yielded) [] l.history ×
    (l.facts ≡ (last_state opening l.yielded).facts)
