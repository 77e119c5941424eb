-- The log of a member, by its info and the entries that it reported (Ceph's developer documentation on the log of a
-- placement group). `reported` are the entries of its reports that count, in the order in which they came.
use Rattle.std.specs.Prelude.{◌≡◌, ℕ, ◌-◌, ◌<◌, ◌≤◌, List, [], ◌∷◌, Bool, true, ◌&&◌, ◌||◌, nat_eq, nat_lt, nat_le, length, filter, AllPairs}
use Rattle.std.specs.List.{list_any}
use Rattle.std.specs.Ordering.{nat_cmp}
use Rattle.pgp_ids.specs.Version.{is_same_version}
use Rattle.pgp_ids.specs.declared.version.Version.{Version}
use Rattle.pgp_ids.specs.declared.log_entry.LogEntry.{LogEntry}
use Rattle.pgp_ids.specs.declared.report.Info.{Info}
use Rattle.pgp_missing.specs.Last.{last_of_each}

abbrev pub number_of : LogEntry → ℕ
number_of entry = entry.version.v

-- an entry of the list has this number
abbrev pub has_number : ℕ → List LogEntry → Bool
has_number v entries = list_any (λ entry. nat_eq entry.version.v v) entries

-- of each number the last entry with it, in ascending order of the numbers
abbrev pub by_number : List LogEntry → List LogEntry
by_number reported = last_of_each number_of nat_cmp reported

-- the entries are in ascending order of their numbers, one of each
abbrev pub IsByNumber : List LogEntry → Type 0
IsByNumber entries = AllPairs (λ a b. a.version.v < b.version.v) entries

-- the number is above that of log_tail and up to that of last_update
abbrev pub is_in_log : Info → ℕ → Bool
is_in_log info v = nat_lt info.log_tail.v v && nat_le v info.last_update.v

-- the entries whose number is above the first number and up to the second
abbrev pub between : ℕ → ℕ → List LogEntry → List LogEntry
between above last entries = filter (λ entry. nat_lt above entry.version.v && nat_le entry.version.v last) entries

-- the entries with the numbers of the log
abbrev pub within : Info → List LogEntry → List LogEntry
within info entries = between info.log_tail.v info.last_update.v entries

-- the member's log: for each number above that of log_tail up to that of last_update, the last entry with it
abbrev pub log_of : Info → List LogEntry → List LogEntry
log_of info reported = within info (by_number reported)

-- an entry of the log has this version
abbrev pub has_version : Version → List LogEntry → Bool
has_version version entries = list_any (λ entry. is_same_version entry.version version) entries

-- there are as many entries as the log has numbers
abbrev pub is_full : Info → List LogEntry → Bool
is_full info log = nat_eq (length log) (info.last_update.v - info.log_tail.v)

-- each number of the log has an entry: there are as many entries as numbers, since no two have the same number
abbrev pub has_each_number : Info → List LogEntry → Bool
has_each_number info reported = is_full info (log_of info reported)

-- an entry with each number of the log was reported
abbrev pub HasEachNumber : Info → List LogEntry → Type 0
HasEachNumber info reported = (v : ℕ) → info.log_tail.v < v → v ≤ info.last_update.v → has_number v reported ≡ true

-- no entry has an epoch below that of the one before it, and the first none below this epoch
abbrev pub is_rising_from : ℕ → List LogEntry → Bool
is_rising_from epoch [] = true
is_rising_from epoch (entry ∷ entries) =
    nat_le epoch entry.version.epoch && is_rising_from entry.version.epoch entries

-- the entries of the log are whole: it is empty, or each number has an entry, the last is that of last_update, and epochs
-- don't fall from log_tail on
abbrev pub are_whole : Info → List LogEntry → Bool
are_whole info log =
    is_same_version info.last_update info.log_tail
    || is_full info log
    && has_version info.last_update log
    && is_rising_from info.log_tail.epoch log

-- the log is whole
abbrev pub is_whole : Info → List LogEntry → Bool
is_whole info reported = are_whole info (log_of info reported)
