-- Which groups of a log may have changed since it was shorter, as C reads them. This project's own choice.
use Rattle.std.specs.Prelude.{◌≡◌, ◌⊎◌, ℕ, List, length, map, Option, Some, None}
use Rattle.pgp_ids.specs.declared.entry.Entry.{Entry}
use Rattle.pgp_ids.specs.declared.pg_id.PgId.{PgId}
use Rattle.pgp_core.specs.Changed.{AreAllChanged}
use Rattle.pgp_core.specs.Session.{LogAndAnswer}
use Rattle.pgp_c.specs.Exports.{put_into, put_status}
use Rattle.pgp_c.specs.Lists.{PutsNone}
use Rattle.pgp_c.specs.Status.{status_number}
use Rattle.pgp_c.specs.declared.lists.PgpGroup.{PgpGroup}
use Rattle.pgp_c.specs.declared.status.Status.TheVariants.{NoMemory, NotOpen}

abbrev pub pgp_group_of : PgId → PgpGroup
pgp_group_of pg = record { pool = pg.pool; pg = pg.pg }

-- groups that are all that may have changed since the log had n entries were put where C reads them, where they fit
pub record PutsChanged (n : ℕ) (log : List Entry) (old new : List PgpGroup) (count status : ℕ) : Type 0 where
  pub ids : List PgId
  pub changed : AreAllChanged n log ids
  pub room : new ≡ put_into (map pgp_group_of ids) old
  pub count_is : count ≡ length ids
  pub status_is : status ≡ status_number (put_status (map pgp_group_of ids) old)

-- The groups of a session's log were told that may have changed, where there is a session and memory to find them.
abbrev pub TellsChanged : Option LogAndAnswer → Option LogAndAnswer → ℕ → List PgpGroup → List PgpGroup → ℕ → ℕ → Type 0
TellsChanged None now n old new count status = (now ≡ None) × PutsNone old new count status (status_number NotOpen)
TellsChanged (Some was) now n old new count status =
    (now ≡ Some was) × (PutsChanged n was.log old new count status ⊎ PutsNone old new count status (status_number NoMemory))
