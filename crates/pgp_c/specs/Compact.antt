-- How the compaction of a session's log ends. This project's own choice.
use Rattle.std.specs.Prelude.{◌≡◌, ◌⊎◌, ℕ, ◌-◌, length, Option, Some, None}
use Rattle.pgp_compact.specs.Compacted.{compacted}
use Rattle.pgp_core.specs.Session.{LogAndAnswer}
use Rattle.pgp_c.specs.Status.{status_number}
use Rattle.pgp_c.specs.declared.status.Status.TheVariants.{Done, NoMemory, NotOpen}

-- the log is compacted, and has this many entries fewer than before
pub record IsShortened (was now : LogAndAnswer) (left_out status : ℕ) : Type 0 where
  pub log : now.log ≡ compacted was.log
  pub less : left_out ≡ length was.log - length now.log
  pub status_is : status ≡ status_number Done

-- there was no memory for the compacted log
pub record StaysWhole (was now : LogAndAnswer) (left_out status : ℕ) : Type 0 where
  pub log : now.log ≡ was.log
  pub none : left_out ≡ 0
  pub status_is : status ≡ status_number NoMemory

-- The log of a session was compacted, which goes from `was` to `now`.
pub record CompactsIn (was now : LogAndAnswer) (left_out status : ℕ) : Type 0 where
  pub answer : now.answer ≡ was.answer
  pub format : now.format ≡ was.format
  pub log : IsShortened was now left_out status ⊎ StaysWhole was now left_out status

-- The log of a session was compacted, where there is one.
abbrev pub Compacts : Option LogAndAnswer → Option LogAndAnswer → ℕ → ℕ → Type 0
Compacts None now left_out status = (now ≡ None) × (left_out ≡ 0) × (status ≡ status_number NotOpen)
Compacts (Some was) None left_out status = ⊥
Compacts (Some was) (Some now) left_out status = CompactsIn was now left_out status
