-- Lines that may stand for a session's log. This project's own choice.
use Rattle.std.specs.Prelude.{◌≡◌, ◌⊎◌, ℕ, List, length, Option, Some, None}
use Rattle.pgp_ids.specs.declared.entry.Entry.{Entry}
use Rattle.pgp_lines.specs.declared.command.format.Format.TheVariants.{Three}
use Rattle.pgp_compact.specs.Compacted.{compacted}
use Rattle.pgp_core.specs.Added.{log_of_lines}
use Rattle.pgp_core.specs.Lines.{lines_of}
use Rattle.pgp_core.specs.Session.{LogAndAnswer}
use Rattle.pgp_join.specs.Bound.{IsJoinedLog}
use Rattle.pgp_c.specs.Exports.{put_into, put_status}
use Rattle.pgp_c.specs.Status.{status_number}
use Rattle.pgp_c.specs.declared.status.Status.TheVariants.{NoLines, NoMemory, NotOpen}

-- the log that these lines make, read up to version 3, may stand for the log where that is compacted
abbrev pub StandFor : (log : List Entry) (text : List ℕ) → Type 0
StandFor log text = IsJoinedLog (compacted log) (log_of_lines Three (lines_of text))

-- such lines are the session's answer
pub record HasJoined (was now : LogAndAnswer) (old new : List ℕ) (len status : ℕ) : Type 0 where
  pub stand : StandFor was.log now.answer
  pub room : new ≡ put_into now.answer old
  pub len_is : len ≡ length now.answer
  pub status_is : status ≡ status_number (put_status now.answer old)

-- there was no memory for such lines, or none were found
pub record HasNotJoined (was now : LogAndAnswer) (old new : List ℕ) (len status : ℕ) : Type 0 where
  pub answer : now.answer ≡ was.answer
  pub room : new ≡ old
  pub none : len ≡ 0
  pub status_is : (status ≡ status_number NoMemory) ⊎ (status ≡ status_number NoLines)

-- Lines for the log of a session were looked for, which goes from `was` to `now`.
pub record JoinsIn (was now : LogAndAnswer) (old new : List ℕ) (len status : ℕ) : Type 0 where
  pub log : now.log ≡ was.log
  pub format : now.format ≡ was.format
  pub lines : HasJoined was now old new len status ⊎ HasNotJoined was now old new len status

-- Lines for the log of a session were looked for, where there is one.
abbrev pub Joins : Option LogAndAnswer → Option LogAndAnswer → List ℕ → List ℕ → ℕ → ℕ → Type 0
Joins None now old new len status = (now ≡ None) × (new ≡ old) × (len ≡ 0) × (status ≡ status_number NotOpen)
Joins (Some was) None old new len status = ⊥
Joins (Some was) (Some now) old new len status = JoinsIn was now old new len status
