-- The log of a member as it is kept while its entries come (this project's own choice).
use Rattle.std.specs.Prelude.{◌≡◌, ℕ, List}
use Rattle.pgp_ids.specs.declared.log_entry.LogEntry.{LogEntry}
use Rattle.pgp_ids.specs.declared.report.Info.{Info}
use Rattle.pgp_ids.specs.declared.version.Version.{Version}
use Rattle.pgp_missing.specs.Log.{by_number}
use Rattle.pgp_missing.specs.declared.entries.Write.{Write}
use Rattle.pgp_missing.specs.declared.entries.Newest.{Newest}

-- the versions between which the log lies, and the entries that are kept
pub record KeptLog : Type 0 where
  pub log_tail : Version
  pub last_update : Version
  pub entries : List LogEntry

-- the log is that of the member with this info: its bounds are those of the info, and of each number it keeps the last entry
-- that the member reported
pub record IsLogOf (info : Info) (reported : List LogEntry) (log : KeptLog) : Type 0 where
  pub from_tail : log.log_tail ≡ info.log_tail
  pub to_last : log.last_update ≡ info.last_update
  pub of_reported : log.entries ≡ by_number reported

-- the entry of this number
abbrev pub numbered : ℕ × Write → LogEntry
numbered e = record { version = record { epoch = e.1.epoch; v = e.0 }; change = e.1.change; object = e.1.object }

-- the entry of this object
abbrev pub named : List ℕ × Newest → LogEntry
named e = record { version = e.1.version; change = e.1.change; object = e.0 }
