-- A session that begins with the log that lines make. This project's own choice.
use Rattle.std.specs.Prelude.{◌≡◌, ℕ, List, [], ◌∷◌, ◌++◌, Bool, true, false, Option, Some, None}
use Rattle.std.specs.List.{count_by}
use Rattle.pgp_ids.specs.declared.entry.Entry.{Entry}
use Rattle.pgp_lines.specs.declared.command.format.Format.{Format}
use Rattle.pgp_core.specs.Added.{IsOutcome, added_by, entries_of_lines, entry_lines, log_of_lines, with_added}
use Rattle.pgp_core.specs.Lines.{lines_of}
use Rattle.pgp_core.specs.Session.{LogAndAnswer}
use Rattle.pgp_core.specs.declared.outcome.LineOutcome.{LineOutcome}
use Rattle.pgp_core.specs.declared.outcome.LineOutcome.TheVariants.{Blank, Taken, Asked, Refused}
use Rattle.pgp_c.specs.Status.{status_number}
use Rattle.pgp_c.specs.declared.status.Status.TheVariants.{Done, NoMemory, AlreadyOpen, BadArgument}

abbrev pub is_refused_outcome : LineOutcome → Bool
is_refused_outcome Blank = false
is_refused_outcome Taken = false
is_refused_outcome Asked = false
is_refused_outcome (Refused why) = true

-- whether the line is refused, given the log before it
pub record IsLineRefused (format : Format) (log : List Entry) (line : List ℕ) (refused : Bool) : Type 0 where
  pub outcome : LineOutcome
  pub is : IsOutcome format log line outcome
  pub refused_is : refused ≡ is_refused_outcome outcome

-- of each line what it is to the log of those before it
abbrev pub AreLineOutcomes : Format → List Entry → List (List ℕ) → List LineOutcome → Type 0
AreLineOutcomes format log [] [] = Unit {0}
AreLineOutcomes format log [] (outcome ∷ more) = ⊥
AreLineOutcomes format log (line ∷ lines) [] = ⊥
AreLineOutcomes format log (line ∷ lines) (outcome ∷ more) =
    IsOutcome format log line outcome × AreLineOutcomes format (with_added log (added_by format log line)) lines more

-- a run would refuse this many of the lines
pub record AreRefused (format : Format) (log : List Entry) (lines : List (List ℕ)) (refused : ℕ) : Type 0 where
  pub outcomes : List LineOutcome
  pub are : AreLineOutcomes format log lines outcomes
  pub count : refused ≡ count_by is_refused_outcome outcomes

-- The lines were read into a session, which goes from `was` to `now`.
pub record HasReadLines (was now : LogAndAnswer) (lines : List (List ℕ)) (refused : ℕ) : Type 0 where
  pub log : now.log ≡ was.log ++ entries_of_lines (entry_lines was.format was.log lines)
  pub answer : now.answer ≡ was.answer
  pub format : now.format ≡ was.format
  pub refusals : AreRefused was.format was.log lines refused

-- A session began with the log that the lines of the text make.
pub record BeginsWith (format : Format) (text : List ℕ) (now : LogAndAnswer) (refused : ℕ) : Type 0 where
  pub log : now.log ≡ log_of_lines format (lines_of text)
  pub answer : now.answer ≡ []
  pub format_is : now.format ≡ format
  pub refusals : AreRefused format [] (lines_of text) refused

-- The same, where it has such a version, there is memory, and none is open.
abbrev pub OpensLines : Option Format → List ℕ → Option LogAndAnswer → Option LogAndAnswer → ℕ → ℕ → Type 0
OpensLines format text (Some was) now refused status = (now ≡ Some was) × (refused ≡ 0) × (status ≡ status_number AlreadyOpen)
OpensLines None text None now refused status = (now ≡ None) × (refused ≡ 0) × (status ≡ status_number BadArgument)
OpensLines (Some format) text None None refused status = (refused ≡ 0) × (status ≡ status_number NoMemory)
OpensLines (Some format) text None (Some now) refused status = BeginsWith format text now refused × (status ≡ status_number Done)
