-- What the exported calls do. This project's own choice.
use Rattle.std.specs.Prelude.{◌≡◌, ℕ, List, [], ◌++◌, Option, Some, None, nat_eq, nat_le, length, drop, if◌then◌else◌}
use Rattle.pgp_lines.specs.declared.command.format.Format.{Format}
use Rattle.pgp_lines.specs.declared.command.format.Format.TheVariants.{Two, Three}
use Rattle.pgp_core.specs.Script.{MayMeet, answer, log_past}
use Rattle.pgp_core.specs.Session.{LogAndAnswer}
use Rattle.pgp_core.specs.declared.want.Want.{Want}
use Rattle.pgp_c.specs.Status.{status_number}
use Rattle.pgp_c.specs.declared.status.Status.{Status}
use Rattle.pgp_c.specs.declared.status.Status.TheVariants.{Done, RoomTooSmall, NoMemory, NotOpen, AlreadyOpen, BadArgument}

-- room into which the text is put, where it fits; else it stays
abbrev pub put_into : {A : Type 0} → List A → List A → List A
put_into text room = if nat_le (length text) (length room) then text ++ drop (length text) room else room

-- whether a text was put into room
abbrev pub put_status : {A : Type 0} → List A → List A → Status
put_status text room = if nat_le (length text) (length room) then Done else RoomTooSmall

-- what became of a line, given what there was no memory for, if anything
abbrev pub line_status : Option Want → List ℕ → List ℕ → Status
line_status None text room = put_status text room
line_status (Some want) text room = NoMemory

-- A line was told to a session, which goes from `was` to `now`. `met` is what there was no memory for, if anything.
pub record IsLineTold (was now : LogAndAnswer) (line : List ℕ) (old new : List ℕ) (len : ℕ) (status : ℕ) : Type 0 where
  pub met : Option Want
  pub meets : MayMeet was.format met line
  pub log : now.log ≡ log_past was.format was.log met line
  pub answer_is : now.answer ≡ answer was.format was.log met line
  pub format : now.format ≡ was.format
  pub room : new ≡ put_into now.answer old
  pub len_is : len ≡ length now.answer
  pub status_is : status ≡ status_number (line_status met now.answer old)

-- A line was told to a session, where there is one.
abbrev pub Tells : Option LogAndAnswer → Option LogAndAnswer → List ℕ → List ℕ → List ℕ → ℕ → ℕ → Type 0
Tells None None line old new len status = (new ≡ old) × (len ≡ 0) × (status ≡ status_number NotOpen)
Tells None (Some now) line old new len status = ⊥
Tells (Some was) None line old new len status = ⊥
Tells (Some was) (Some now) line old new len status = IsLineTold was now line old new len status

-- the version of this number, where a session may read lines up to it
abbrev pub session_format : ℕ → Option Format
session_format number = if nat_eq number 2 then Some Two else (if nat_eq number 3 then Some Three else None)

-- A session was opened that reads lines up to this version: it has an empty log, and has answered no line. One that is open, for
-- which there is no memory, or whose version is none, stays.
abbrev pub Opens : Option Format → Option LogAndAnswer → Option LogAndAnswer → ℕ → Type 0
Opens format (Some was) now status = (now ≡ Some was) × (status ≡ status_number AlreadyOpen)
Opens None None now status = (now ≡ None) × (status ≡ status_number BadArgument)
Opens (Some format) None None status = status ≡ status_number NoMemory
Opens (Some format) None (Some now) status = (now.format ≡ format) × (now.log ≡ []) × (now.answer ≡ []) × (status ≡ status_number Done)

-- A session was closed, where there was one.
abbrev pub Closes : Option LogAndAnswer → Option LogAndAnswer → ℕ → Type 0
Closes None now status = (now ≡ None) × (status ≡ status_number NotOpen)
Closes (Some was) now status = (now ≡ None) × (status ≡ status_number Done)

-- The answer to the last line of a session was given again, where there is one.
abbrev pub Repeats : Option LogAndAnswer → Option LogAndAnswer → List ℕ → List ℕ → ℕ → ℕ → Type 0
Repeats None now old new len status = (now ≡ None) × (new ≡ old) × (len ≡ 0) × (status ≡ status_number NotOpen)
Repeats (Some was) now old new len status =
    (now ≡ Some was) × (new ≡ put_into was.answer old) × (len ≡ length was.answer) × (status ≡ status_number (put_status was.answer old))
