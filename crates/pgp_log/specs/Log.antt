-- The log of all that monitor and devices told, and its fronts.
use Rattle.std.specs.Prelude.{◌≡◌, ℕ, ◌<◌, List, [], ◌∷◌, length, ◌++◌, Bool, is_none, take}
use Rattle.pgp_ids.specs.declared.entry.Entry.{Entry}
use Rattle.pgp_ids.specs.declared.entry.Entry.TheVariants as entry
use Rattle.pgp_lists.specs.Taken as taken
use Rattle.pgp_map.specs.Map.{epoch}
use Rattle.pgp_group.specs.Entries.{incs_of}
use Rattle.pgp_log.specs.Fits.{fits}

-- the epoch of the map that the log makes, 0 without an incremental
abbrev pub epoch_of : List Entry → ℕ
epoch_of log = epoch (incs_of log)

-- the log has an incremental
abbrev pub HasInc : List Entry → Type 0
HasInc log = 0 < length (incs_of log)

-- the first n entries
abbrev pub front : ℕ → List Entry → List Entry
front n log = take n log

-- the first list is a front of the second
pub record IsFrontOf (front log : List Entry) : Type 0 where
  pub rest : List Entry
  pub whole : log ≡ front ++ rest

-- the log takes the entry
abbrev pub is_accepted : List Entry → Entry → Bool
is_accepted log entry = is_none (fits log entry)

-- the entry at this place was taken by the front before it
abbrev pub is_accepted_at : List Entry → ℕ → Bool
is_accepted_at log n = taken.is_taken_at is_accepted log n

-- each entry was taken by the front before it
abbrev pub is_legal : List Entry → Bool
is_legal log = taken.are_taken is_accepted log

-- the log's last entry is a Close
pub record EndsWithClose (log : List Entry) : Type 0 where
  pub before : List Entry
  pub whole : log ≡ before ++ entry.Close ∷ []
