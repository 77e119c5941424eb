-- Which entries stay where a session's log is compacted, as C reads them. This project's own choice.
use Rattle.std.specs.Prelude.{◌≡◌, ◌⊎◌, ℕ, List, Bool, length, map, Option, Some, None, if◌then◌else◌}
use Rattle.pgp_compact.specs.Compacted.{are_needed_in}
use Rattle.pgp_ids.specs.declared.entry.Entry.{Entry}
use Rattle.pgp_core.specs.Session.{LogAndAnswer}
use Rattle.pgp_c.specs.Exports.{put_into, put_status}
use Rattle.pgp_c.specs.Lists.{PutsNone}
use Rattle.pgp_c.specs.Status.{status_number}
use Rattle.pgp_c.specs.declared.status.Status.TheVariants.{NoMemory, NotOpen}

abbrev pub flag : Bool → ℕ
flag holds = if holds then 1 else 0

-- of each entry of the log whether it stays
abbrev pub needed_flags : List Entry → List ℕ
needed_flags log = map flag (are_needed_in log)

-- they were put where C reads them, where they fit
pub record PutsNeeded (log : List Entry) (old new : List ℕ) (count status : ℕ) : Type 0 where
  pub room : new ≡ put_into (needed_flags log) old
  pub count_is : count ≡ length log
  pub status_is : status ≡ status_number (put_status (needed_flags log) old)

-- Of each entry of a session's log it was said whether it stays, where there is a session and memory to find out.
abbrev pub Needs : Option LogAndAnswer → Option LogAndAnswer → List ℕ → List ℕ → ℕ → ℕ → Type 0
Needs None now old new count status = (now ≡ None) × PutsNone old new count status (status_number NotOpen)
Needs (Some was) now old new count status =
    (now ≡ Some was) × (PutsNeeded was.log old new count status ⊎ PutsNone old new count status (status_number NoMemory))
