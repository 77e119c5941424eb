-- The lines of reports and of questions, in this project's own format over JSON.
use Rattle.std.specs.Prelude.{ℕ, List, codes, Option, Result, Ok}
use Rattle.serde_json.specs.Data.{Data}
use Rattle.serde_json.specs.Find.{as_bool}
use Rattle.pgp_ids.specs.declared.pg_id.PgId.{PgId}
use Rattle.pgp_ids.specs.declared.report.Info.{Info}
use Rattle.pgp_ids.specs.declared.report.Report.{Report}
use Rattle.pgp_lines.specs.LineFault.{LineFault, ◌>>=◌}
use Rattle.pgp_lines.specs.Format.{judged}
use Rattle.pgp_lines.specs.Shapes.{required, optional}
use Rattle.pgp_lines.specs.Ids.{pool_id_in, word_in}
use Rattle.pgp_lines.specs.ReportParts.{pg_in, member_in, version_in, name_in, log_in}
use Rattle.pgp_lines.specs.declared.command.format.Format.{Format}

-- the last epoch in which a member knows its group to have been clean, 0 in a line without it
abbrev pub last_epoch_clean_of : Data → Result ℕ LineFault
last_epoch_clean_of d = optional (codes "last_epoch_clean") word_in 0 d

-- the line of an info: its keys are judged in ascending byte order, so the least bad one is named
abbrev pub info_of_line : Option Format → Data → Result Info LineFault
info_of_line format d = do
  complete ← required (codes "complete") as_bool d
  member ← required (codes "from") member_in d
  history_les ← required (codes "history_les") word_in d
  last_epoch_clean ← last_epoch_clean_of d
  last_update ← required (codes "last_update") version_in d
  les ← required (codes "les") word_in d
  log_tail ← required (codes "log_tail") version_in d
  pg ← required (codes "pg") pg_in d
  stamp ← required (codes "stamp") word_in d
  known ← judged format
  Ok (record {
    pg = pg;
    member = member;
    stamp = stamp;
    les = les;
    history_les = history_les;
    last_epoch_clean = last_epoch_clean;
    last_update = last_update;
    log_tail = log_tail;
    complete = complete;
  })

-- the line of 1 to 256 log entries
abbrev pub entries_of_line : Option Format → Data → Result Report LineFault
entries_of_line format d = do
  member ← required (codes "from") member_in d
  log ← required (codes "log") log_in d
  pg ← required (codes "pg") pg_in d
  stamp ← required (codes "stamp") word_in d
  known ← judged format
  Ok (record { pg = pg; member = member; stamp = stamp; log = log })

-- the group that a line asks about
abbrev pub ask_of_line : Option Format → Data → Result PgId LineFault
ask_of_line format d = do
  pg ← required (codes "pg") pg_in d
  known ← judged format
  Ok pg

-- the pool and the name of the object that a line asks for
abbrev pub locate_of_line : Option Format → Data → Result (ℕ × List ℕ) LineFault
locate_of_line format d = do
  name ← required (codes "name") name_in d
  pool ← required (codes "pool") pool_id_in d
  known ← judged format
  Ok (pool, name)
