-- How a part of a member's log that C tells ends. This project's own choice.
use Rattle.std.specs.Prelude.{◌≡◌, ◌⊎◌, ℕ, ◌≤◌, List, length, map, take, Bool, true, ◌&&◌, nat_eq, nat_le, Option, Some, None, Result, Ok, Err, if◌then◌else◌}
use Rattle.std.specs.List.{list_all}
use Rattle.std.specs.Str.{is_utf8}
use Rattle.pgp_ids.specs.declared.entry.Entry.TheVariants as entry
use Rattle.pgp_ids.specs.declared.log_entry.Change.{Change}
use Rattle.pgp_ids.specs.declared.log_entry.Change.TheVariants.{Modify, Delete}
use Rattle.pgp_ids.specs.declared.log_entry.LogEntry.{LogEntry}
use Rattle.pgp_ids.specs.declared.report.Report.{Report}
use Rattle.pgp_core.specs.Session.{LogAndAnswer}
use Rattle.pgp_c.specs.Ask.{AreOfGroup, group}
use Rattle.pgp_c.specs.Member.{AreOfMember, member}
use Rattle.pgp_c.specs.Status.{status_number}
use Rattle.pgp_c.specs.Submit.{TellsEntry}
use Rattle.pgp_c.specs.declared.report.PgpLogEntry.{PgpLogEntry}
use Rattle.pgp_c.specs.declared.report.PgpReport.{PgpReport}
use Rattle.pgp_c.specs.declared.status.Status.{Status}
use Rattle.pgp_c.specs.declared.status.Status.TheVariants.{NoMemory, NotOpen, BadArgument}

-- the name that a log entry has
abbrev pub given_name : PgpLogEntry → List ℕ
given_name it = take it.name_length it.name

-- the numbers and the name are those of a log entry
abbrev pub is_log_entry : PgpLogEntry → Bool
is_log_entry it = nat_le it.deletes 1 && (nat_le 1 it.name_length && is_utf8 (given_name it))

abbrev pub change_of : ℕ → Change
change_of deletes = if nat_eq deletes 1 then Delete else Modify

abbrev pub told_log_entry : PgpLogEntry → LogEntry
told_log_entry it = record {
  version = record { epoch = it.epoch; v = it.number };
  change = change_of it.deletes;
  object = given_name it;
}

-- the log entry with these numbers and this name, if they are those of one
abbrev pub given_log_entry : PgpLogEntry → Option LogEntry
given_log_entry it = if is_log_entry it then Some (told_log_entry it) else None

-- the numbers and names are those of a part of a log
pub record IsReport (report : PgpReport) (log : List PgpLogEntry) : Type 0 where
  pub of_group : AreOfGroup report.pool report.pg
  pub of_member : AreOfMember report.osd report.slot
  pub some : 1 ≤ length log
  pub few : length log ≤ 256
  pub entries : list_all is_log_entry log ≡ true

abbrev pub told_report : PgpReport → List PgpLogEntry → Report
told_report report log = record {
  pg = group report.pool report.pg;
  member = member report.osd report.slot;
  stamp = report.stamp;
  log = map told_log_entry log;
}

-- the part of a log, or why none was made: the numbers and names are those of none, or there was no memory for it
abbrev pub IsReportMade : Result Report Status → PgpReport → List PgpLogEntry → Type 0
IsReportMade (Ok made) report log = IsReport report log × (made ≡ told_report report log)
IsReportMade (Err why) report log = (IsReport report log × (why ≡ NoMemory)) ⊎ ((IsReport report log → ⊥) × (why ≡ BadArgument))

-- there was no memory for it, whatever the log says of it
pub record LacksReport (was now : LogAndAnswer) (status : ℕ) : Type 0 where
  pub same : now ≡ was
  pub status_is : status ≡ status_number NoMemory

-- A part of a member's log was told to a session, which goes from `was` to `now`.
pub record SubmitsReport (was now : LogAndAnswer) (report : PgpReport) (log : List PgpLogEntry) (status : ℕ) : Type 0 where
  pub bad : (IsReport report log → ⊥) → (now ≡ was) × (status ≡ status_number BadArgument)
  pub good : IsReport report log → TellsEntry was now (entry.Entries (told_report report log)) status ⊎ LacksReport was now status

-- A part of a member's log was told to a session, where there is one.
abbrev pub SubmitsEntries : Option LogAndAnswer → Option LogAndAnswer → PgpReport → List PgpLogEntry → ℕ → Type 0
SubmitsEntries None now report log status = (now ≡ None) × (status ≡ status_number NotOpen)
SubmitsEntries (Some was) None report log status = ⊥
SubmitsEntries (Some was) (Some now) report log status = SubmitsReport was now report log status
