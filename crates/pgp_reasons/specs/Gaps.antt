-- The numbers of writes that a member's log lacks, as runs (Ceph's developer documentation on the log of a placement group).
use Rattle.std.specs.Prelude.{ℕ, ◌+◌, ◌-◌, ◌<◌, ◌≤◌, List, [], ◌∷◌, Bool, not, ◌&&◌, nat_eq, nat_le, filter, if◌then◌else◌}
use Rattle.std.specs.List.{range_with_len}
use Rattle.pgp_ids.specs.declared.log_entry.LogEntry.{LogEntry}
use Rattle.pgp_ids.specs.declared.report.Info.{Info}
use Rattle.pgp_missing.specs.Log.{has_number}
use Rattle.pgp_reasons.specs.declared.gap.Gap.{Gap}

-- the numbers from the first to the last
abbrev pub from_to : ℕ → ℕ → Gap
from_to first last = record { first = first; last = last }

-- the runs with a number before them: it begins the first run where it stands right before it, or is a run of its own
abbrev pub then_runs : ℕ → List Gap → List Gap
then_runs v [] = from_to v v ∷ []
then_runs v (run ∷ runs) = if nat_eq (v + 1) run.first then from_to v run.last ∷ runs else from_to v v ∷ run ∷ runs

-- numbers in ascending order, as runs of numbers that follow one another
abbrev pub runs_of : List ℕ → List Gap
runs_of [] = []
runs_of (v ∷ vs) = then_runs v (runs_of vs)

-- the numbers above one up to another
abbrev pub numbers_above : ℕ → ℕ → List ℕ
numbers_above tail last = range_with_len (tail + 1) (last - tail)

-- those of them that aren't present, as runs
abbrev pub runs_lacked : (ℕ → Bool) → ℕ → ℕ → List Gap
runs_lacked is_present tail last = runs_of (filter (λ v. not (is_present v)) (numbers_above tail last))

-- the numbers of the member's log by its info, above that of log_tail up to that of last_update, that no entry has which it
-- reported, as runs. A log without a gap may still not be whole: its last entry may be another version, or epochs may fall.
abbrev pub gaps_in : Info → List LogEntry → List Gap
gaps_in info reported = runs_lacked (λ v. has_number v reported) info.log_tail.v info.last_update.v

-- the number lies in the run
abbrev pub is_in_gap : ℕ → Gap → Bool
is_in_gap v gap = nat_le gap.first v && nat_le v gap.last

-- each run has a number at least, and between one and the next a number is left out
abbrev pub AreApart : List Gap → Type 0
AreApart [] = Unit {0}
AreApart (gap ∷ []) = gap.first ≤ gap.last
AreApart (gap ∷ next ∷ gaps) = (gap.first ≤ gap.last) × (gap.last + 1 < next.first) × AreApart (next ∷ gaps)
