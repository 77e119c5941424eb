-- One epoch more of a history that is told.
use Rattle.std.proofs.Common.{◌≡◌, List, [], ◌∷◌, ◌++◌, length, take, slice_index_or, refl, sym, ap, ap₂}
use Rattle.pgp_code.specs.declared.any.AnyCode.{AnyCode}
use Rattle.pgp_ids.specs.declared.history.EpochState.{EpochState}
use Rattle.pgp_interval.specs.History.{History, stepped}
use Rattle.pgp_core.specs.TraceHistory.{last_state, trace_history}

last-at : (none opening : EpochState) (others : List EpochState) (state : EpochState) → slice_index_or (opening ∷ (others ++ state ∷ [])) (length (others ++ state ∷ [])) none ≡ state
last-at none opening [] state = refl
last-at none opening (next ∷ others) state = last-at none next others state

pub last-push : (opening : EpochState) (others : List EpochState) (state : EpochState) → last_state opening (others ++ state ∷ []) ≡ state
last-push opening others state = last-at opening opening others state

-- all but the last, and the last
front-last : (none opening : EpochState) (others : List EpochState) (state : EpochState)
    → take (length others) (opening ∷ others) ++ slice_index_or (opening ∷ others) (length others) none ∷ [] ≡ take (length (others ++ state ∷ [])) (opening ∷ (others ++ state ∷ []))
front-last none opening [] state = refl
front-last none opening (next ∷ others) state = ap (λ l. opening ∷ l) (front-last none next others state)

pub trace-push : (code : AnyCode) (opening : EpochState) (others : List EpochState) (state : EpochState)
    → stepped (trace_history code opening others) state.members (last_state opening others).facts ≡ trace_history code opening (others ++ state ∷ [])
trace-push code opening others state =
    ap₂ (λ (lived : List EpochState) (last : EpochState). let h : History AnyCode = record { code = code; first = 1; lived = lived; current = last.members } in h)
    (front-last opening opening others state) (sym (last-push opening others state))
