-- What a member's copy lacks, by the log of the best one (Ceph's developer documentation on peering).
use Rattle.std.specs.Prelude.{◌≡◌, ℕ, ◌<◌, ◌≤◌, List, Bool, true, false, not, ◌||◌, nat_lt, map, filter, Contains, AllPairs, if◌then◌else◌}
use Rattle.std.specs.Cmp.Lexicographic.{slice_cmp}
use Rattle.std.specs.Ordering.{nat_cmp, is_lt}
use Rattle.pgp_ids.specs.Version.{is_older, is_same_version}
use Rattle.pgp_ids.specs.declared.log_entry.Change.{Change}
use Rattle.pgp_ids.specs.declared.log_entry.Change.TheVariants.{Modify, Delete}
use Rattle.pgp_ids.specs.declared.log_entry.LogEntry.{LogEntry}
use Rattle.pgp_ids.specs.declared.peer.MissingObject.{MissingObject}
use Rattle.pgp_ids.specs.declared.peer.PeerState.{PeerState}
use Rattle.pgp_ids.specs.declared.peer.PeerState.TheVariants.{Missing, Backfill, Diverged}
use Rattle.pgp_ids.specs.declared.report.Info.{Info}
use Rattle.pgp_missing.specs.Last.{last_of_each}
use Rattle.pgp_missing.specs.Log.{log_of, has_version}

abbrev pub object_of : LogEntry → List ℕ
object_of entry = entry.object

-- of each object the last of the entries, in ascending order of the objects' names
abbrev pub by_object : List LogEntry → List LogEntry
by_object entries = last_of_each object_of (slice_cmp nat_cmp) entries

-- the entries with a greater number
abbrev pub entries_above : ℕ → List LogEntry → List LogEntry
entries_above v entries = filter (λ entry. nat_lt v entry.version.v) entries

-- the object and its version
abbrev pub missing_by : LogEntry → MissingObject
missing_by entry = record { object = entry.object; version = entry.version }

abbrev pub is_modify : Change → Bool
is_modify Modify = true
is_modify Delete = false

-- what a copy lacks that has the writes up to this number: the objects whose last entry above it is a modify
abbrev pub missing_above : ℕ → List LogEntry → List MissingObject
missing_above v entries = map missing_by (filter (λ entry. is_modify entry.change) (by_object (entries_above v entries)))

-- the objects are in ascending order of their names, each once
abbrev pub IsByName : List MissingObject → Type 0
IsByName objects = AllPairs (λ a b. is_lt (slice_cmp nat_cmp a.object b.object) ≡ true) objects

-- the entry is a modify above this number, by which a copy with the writes up to there lacks the object: no entry of the
-- object has a greater number
pub record IsMissing (v : ℕ) (entries : List LogEntry) (missing : MissingObject) (entry : LogEntry) : Type 0 where
  pub there : Contains entries entry
  pub above : v < entry.version.v
  pub modify : entry.change ≡ Modify
  pub object : entry.object ≡ missing.object
  pub version : entry.version ≡ missing.version
  pub newest : (other : LogEntry) → Contains entries other → other.object ≡ entry.object → other.version.v ≤ entry.version.v

-- the state of a peer, by the info of the best member and the entries of its log, where this one is whole
abbrev pub peer_state_by : Info → List LogEntry → Info → PeerState
peer_state_by best log peer =
    if not peer.complete || is_older peer.last_update best.log_tail then Backfill
    else (if is_same_version peer.last_update best.log_tail || has_version peer.last_update log
    then Missing (missing_above peer.last_update.v log) else Diverged)

-- the state of a peer, by the info of the best member and the entries that this one reported
abbrev pub peer_state : Info → List LogEntry → Info → PeerState
peer_state best reported peer = peer_state_by best (log_of best reported) peer
