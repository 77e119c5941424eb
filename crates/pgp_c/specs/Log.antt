-- What a session knows of its log, as C reads it. This project's own choice.
use Rattle.std.specs.Prelude.{◌≡◌, ℕ, List, length, Option, Some, None}
use Rattle.pgp_ids.specs.declared.entry.Entry.{Entry}
use Rattle.pgp_log.specs.Fits.{is_closed}
use Rattle.pgp_log.specs.Log.{epoch_of}
use Rattle.pgp_core.specs.Counts.{counts_of}
use Rattle.pgp_core.specs.Session.{LogAndAnswer}
use Rattle.pgp_c.specs.Needed.{flag}
use Rattle.pgp_c.specs.Status.{status_number}
use Rattle.pgp_c.specs.declared.log.PgpLog.{PgpLog}
use Rattle.pgp_c.specs.declared.status.Status.TheVariants.{Done, NotOpen}

abbrev pub pgp_log : List Entry → PgpLog
pgp_log log = record {
  count = length log;
  incrementals = (counts_of log).incrementals;
  infos = (counts_of log).infos;
  parts = (counts_of log).parts;
  epoch = epoch_of log;
  closed = flag (is_closed log);
}

-- What a session knows of its log was put where C reads it, where there is a session.
abbrev pub AsksLog : Option LogAndAnswer → Option LogAndAnswer → PgpLog → PgpLog → ℕ → Type 0
AsksLog None now old new status = (now ≡ None) × (new ≡ old) × (status ≡ status_number NotOpen)
AsksLog (Some was) now old new status = (now ≡ Some was) × (new ≡ pgp_log was.log) × (status ≡ status_number Done)
