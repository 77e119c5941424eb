-- The intervals of a history: the maximal runs of epochs of equal membership (Ceph's developer documentation on
-- peering). The run that reaches the last epoch is the current interval, the others are past.
use Rattle.std.specs.Prelude.{ℕ, zero, suc, ◌+◌, List, Bool, true, not, map, filter, fold, max}
use Rattle.std.specs.List.{range_with_len}
use Rattle.pgp_ids.specs.declared.history.EpochState.{EpochState}
use Rattle.pgp_ids.specs.declared.history.PrimaryFacts.{PrimaryFacts}
use Rattle.pgp_ids.specs.declared.past.Past.{Past}
use Rattle.pgp_interval.specs.SameMembers.{is_same}
use Rattle.pgp_interval.specs.History.{History, state_at, members_at, last_place}
use Rattle.pgp_interval.specs.ReadWrite.{may_have_gone_rw}

-- an interval ends at this place: the next membership differs
abbrev pub ends_at : {C : Type 0} → History C → ℕ → Bool
ends_at h place = not (is_same (members_at h place) (members_at h (place + 1)))

-- an interval opens at this place: it is the first, or the membership before differs
abbrev pub opens_at : {C : Type 0} → History C → ℕ → Bool
opens_at h zero = true
opens_at h (suc place) = ends_at h place

-- the greatest number below the limit that passes the test, or 0
abbrev pub last_below : (ℕ → Bool) → ℕ → ℕ
last_below test limit = fold max 0 (filter test (range_with_len 0 limit))

-- where the interval that holds this place opens: the greatest opening place that is not above it
abbrev pub opening_of : {C : Type 0} → History C → ℕ → ℕ
opening_of h place = last_below (opens_at h) (place + 1)

-- the past interval from the epoch `first` to the epoch `last`, which ended in this state, of a group that was clean in these
-- epochs
abbrev pub past_interval : (List ℕ → Bool) → Bool → List ℕ → ℕ → ℕ → EpochState → Past
past_interval enough by_place cleans first last ended =
    record {
      first = first;
      last = last;
      members = ended.members;
      rw = may_have_gone_rw enough by_place cleans ended first last;
    }

-- the past interval that ends at this place
abbrev pub past_ending : {C : Type 0} → (C → List ℕ → Bool) → (C → Bool) → List ℕ → History C → ℕ → Past
past_ending enough by_place cleans h last =
    past_interval (enough h.code) (by_place h.code) cleans (h.first + opening_of h last) (h.first + last) (state_at h last)

-- the last places of the past intervals, in ascending order
abbrev pub past_ends : {C : Type 0} → History C → List ℕ
past_ends h = filter (ends_at h) (range_with_len 0 (last_place h))

-- the past intervals, in ascending order
abbrev pub past_intervals : {C : Type 0} → (C → List ℕ → Bool) → (C → Bool) → List ℕ → History C → List Past
past_intervals enough by_place cleans h = map (past_ending enough by_place cleans h) (past_ends h)

-- the first epoch of the current interval
abbrev pub current_first : {C : Type 0} → History C → ℕ
current_first h = h.first + opening_of h (last_place h)

-- the current interval as a past one, where it ends with this epoch and these facts
abbrev pub ending_at : {C : Type 0} → (C → List ℕ → Bool) → (C → Bool) → List ℕ → History C → ℕ → PrimaryFacts → Past
ending_at enough by_place cleans h last facts =
    let ended : EpochState = record { members = h.current; facts = facts } in
    past_interval (enough h.code) (by_place h.code) cleans (current_first h) last ended
