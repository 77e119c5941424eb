-- The past intervals for which a group has to wait, with what is told of each (Ceph's developer documentation on peering: the
-- prior set). `status` says what has become of a device of an interval, given the first epoch of the interval; `lost` gives the
-- epoch that was told when a device was last given up for lost.
use Rattle.std.specs.Prelude.{ℕ, List, Option, option_map, Bool, is_some, ◌&&◌, nat_le, max, map, filter}
use Rattle.std.specs.List.{reduce}
use Rattle.pgp_ids.specs.declared.past.Past.{Past}
use Rattle.pgp_code.specs.AnyCode.{enough_of, is_by_place}
use Rattle.pgp_code.specs.declared.any.AnyCode.{AnyCode}
use Rattle.pgp_lists.specs.Last.{last_where}
use Rattle.pgp_prior.specs.Blocks.{blocks, matters, settled_slots}
use Rattle.pgp_sets.specs.declared.status.Status.{Status}
use Rattle.pgp_reasons.specs.Fates.{interval_now}
use Rattle.pgp_reasons.specs.Lacking.{lacking}
use Rattle.pgp_reasons.specs.declared.blocking.Blocking.{Blocking}
use Rattle.pgp_reasons.specs.declared.fates.IntervalNow.{IntervalNow}

-- the greatest of these epochs, if there is one
abbrev pub greatest : List ℕ → Option ℕ
greatest epochs = reduce max epochs

-- the epoch lies within the interval
abbrev pub is_in_interval : Past → ℕ → Bool
is_in_interval interval epoch = nat_le interval.first epoch && nat_le epoch interval.last

-- the greatest of these epochs that lies within the interval
abbrev pub last_within : Past → List ℕ → Option ℕ
last_within interval epochs = greatest (filter (is_in_interval interval) epochs)

-- what is told of an interval, where the group was clean in these epochs: its members, how many slots those lack that are up or
-- lost, and the last epoch within it in which the group was clean
abbrev pub blocking_by : AnyCode → (ℕ → ℕ → Status) → (ℕ → ℕ) → List ℕ → Past → Blocking
blocking_by code status lost cleans interval =
    record {
      interval = interval_now code status lost interval;
      lacks = lacking code (settled_slots (is_by_place code) status interval);
      clean = last_within interval cleans;
    }

-- the intervals that block, in their order
abbrev pub blocking_of : AnyCode → (ℕ → ℕ → Status) → (ℕ → ℕ) → List ℕ → ℕ → List Past → List Blocking
blocking_of code status lost cleans les past =
    map (blocking_by code status lost cleans) (filter (blocks (enough_of code) (is_by_place code) status les) past)

-- the group was clean in the interval, and has to reckon with its writes
abbrev pub was_clean_in : List ℕ → ℕ → Past → Bool
was_clean_in cleans les interval = matters les interval && is_some (last_within interval cleans)

-- the last such interval: the copies of its members were complete
abbrev pub clean_of : AnyCode → (ℕ → ℕ → Status) → (ℕ → ℕ) → List ℕ → ℕ → List Past → Option IntervalNow
clean_of code status lost cleans les past =
    option_map (interval_now code status lost) (last_where (was_clean_in cleans les) past)
