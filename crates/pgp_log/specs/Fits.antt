-- Which entries the log takes next (this project's own choice).
use Rattle.std.specs.Prelude.{ℕ, List, length, Bool, true, false, nat_le, Option, Some, None, option_map, if◌then◌else◌}
use Rattle.std.specs.List.{list_any}
use Rattle.std.specs.Option.{option_or}
use Rattle.pgp_ids.specs.declared.entry.Entry.{Entry}
use Rattle.pgp_ids.specs.declared.entry.Entry.TheVariants as entry
use Rattle.pgp_ids.specs.declared.refusal.Refusal.{Refusal}
use Rattle.pgp_ids.specs.declared.refusal.Refusal.TheVariants as refusal
use Rattle.pgp_map.specs.FaultNumber.{refusal_of}
use Rattle.pgp_map.specs.MapFault.{map_fault}
use Rattle.pgp_group.specs.Entries.{incs_of}
use Rattle.pgp_log.specs.ReportFault.{info_fault, entries_fault}

-- how many entries the log takes; a Close is taken beyond
abbrev pub longest_log : ℕ
longest_log = 65535

abbrev pub is_close : Entry → Bool
is_close (entry.Inc inc) = false
is_close (entry.Info info) = false
is_close (entry.Entries report) = false
is_close entry.Close = true

-- the log was closed
abbrev pub is_closed : List Entry → Bool
is_closed log = list_any is_close log

-- what is wrong with the entry itself, by the map that the log makes
abbrev pub entry_fault : List Entry → Entry → Option Refusal
entry_fault log (entry.Inc inc) = option_map refusal_of (map_fault (incs_of log) inc)
entry_fault log (entry.Info info) = info_fault (incs_of log) info
entry_fault log (entry.Entries report) = entries_fault (incs_of log) report
entry_fault log entry.Close = None

-- the log has no room for the entry: it has as many as it takes, or, which no legal log has, more
abbrev pub full_fault : List Entry → Entry → Option Refusal
full_fault log new =
    if is_close new then None else (if nat_le longest_log (length log) then Some refusal.LogFull else None)

-- why the log doesn't take the entry, if it doesn't
abbrev pub fits : List Entry → Entry → Option Refusal
fits log new = if is_closed log then Some refusal.Closed else option_or (entry_fault log new) (full_fault log new)
