-- How the answering of a script goes on, and how it ends, whoever answers its commands. Where `alone` is true nobody else adds
-- to the log.
use Rattle.std.specs.Prelude.{◌≡◌, ◌≢◌, ◌⊎◌, ℕ, List, [], ◌++◌, Bool, true, Option}
use Rattle.std.specs.Io.KnownBytes.{Appends, Consumes, IsAtEnd}
use Rattle.pgp_ids.specs.declared.entry.Entry.{Entry}
use Rattle.pgp_lines.specs.declared.command.format.Format.{Format}
use Rattle.pgp_core.specs.Lines.{lines_of}
use Rattle.pgp_core.specs.Script.{IsBeyond, Within, whole_lines}
use Rattle.pgp_core.specs.Output.{WrittenPart, FrontWent}
use Rattle.pgp_core.specs.WrittenFor.{AreWrittenFor, StartsLeft}
use Rattle.pgp_core.specs.Account.{Account, NoCallFailed, FailedBy}
use Rattle.pgp_core.specs.declared.input.Bounds.{Bounds}
use Rattle.pgp_core.specs.declared.fault.ScriptFault.{ScriptFault}
use Rattle.pgp_core.specs.declared.fault.ScriptFault.TheVariants.{Read, Write, Gone}

-- what a run starts with: up to which version it reads lines, the log, how large its script may be, and what the writer held
pub record RunStart : Type 0 where
  pub format : Format
  pub log : List Entry
  pub bounds : Bounds
  pub written : Option (List ℕ)

abbrev pub run_start : Format → List Entry → Bounds → Option (List ℕ) → RunStart
run_start format log bounds written = record { format = format; log = log; bounds = bounds; written = written }

-- ---- lines

-- The answers to these lines are written, except for what is pending of them, and the log is this one then.
pub record AreAnswered (alone : Bool) (start : RunStart) (lines : List (List ℕ)) (log : List Entry) (now : Option (List ℕ)) (pending : List ℕ) : Type 0 where
  pub out : List ℕ
  pub told : AreWrittenFor alone start.format start.log lines log out
  pub went : WrittenPart start.written now out pending

-- how much of a text went out: a front of it where a write failed, and else all of it
abbrev pub WentBy : ScriptFault → Option (List ℕ) → Option (List ℕ) → List ℕ → Type 0
WentBy Read old new text = Appends old new text
WentBy Write old new text = FrontWent old new text
WentBy Gone old new text = Appends old new text

-- The answers to the first of these lines went out as far as the fault let them. Where a read failed these are all lines, and
-- where nobody answers any more they are those before the first line that was left.
pub record IsStopped (alone : Bool) (start : RunStart) (fault : ScriptFault) (now : Option (List ℕ)) (lines : List (List ℕ)) : Type 0 where
  pub done : List (List ℕ)
  pub others : List (List ℕ)
  pub parts : lines ≡ done ++ others
  pub log : List Entry
  pub out : List ℕ
  pub told : AreWrittenFor alone start.format start.log done log out
  pub went : WentBy fault start.written now out
  pub all : fault ≡ Read → others ≡ []
  pub left : fault ≡ Gone → StartsLeft alone start.format others

-- ---- the whole script

-- It is within the bounds, and the answers to its lines are written, except for what is pending of them.
pub record IsAnsweredWhole (alone : Bool) (start : RunStart) (log : List Entry) (now : Option (List ℕ)) (pending script : List ℕ) : Type 0 where
  pub within : Within start.bounds script
  pub answered : AreAnswered alone start (lines_of script) log now pending

-- The fault stopped the run after the whole script was read: no read fault does that.
pub record StoppedAtLast (alone : Bool) (start : RunStart) (fault : ScriptFault) (now : Option (List ℕ)) (script : List ℕ) : Type 0 where
  pub other : fault ≢ Read
  pub within : Within start.bounds script
  pub stopped : IsStopped alone start fault now (lines_of script)

-- ---- the reader

-- The reader gave these bytes, and the run stopped: in the lines that were read whole or, after the reader's end, in all lines. A read
-- failed, or the script is too large, or a write failed, or nobody answers any more.
pub record Stops (alone : Bool) (start : RunStart) (fault : ScriptFault) (from to now : Option (List ℕ)) (read_failed : Bool) : Type 0 where
  pub script : List ℕ
  pub consumed : Consumes from to script
  pub answered : IsStopped alone start fault now (whole_lines start.bounds script)
      ⊎ (IsAtEnd to × StoppedAtLast alone start fault now script)
  pub cause : fault ≡ Read → (read_failed ≡ true) ⊎ IsBeyond start.bounds script

-- ---- what is known of the reader and the writer after it

-- The reader gave this script and is at its end, all answers to its lines are written, and no call failed.
pub record RanToEnd (alone : Bool) (format : Format) (bounds : Bounds) (log_before log_after : List Entry) (before after : Account) : Type 0 where
  pub script : List ℕ
  pub consumed : Consumes before.remaining after.remaining script
  pub ended : IsAtEnd after.remaining
  pub done : IsAnsweredWhole alone (run_start format log_before bounds before.contents) log_after after.contents [] script
  pub quiet : NoCallFailed before after

-- This fault stopped the answering of the script.
pub record WasStopped (alone : Bool) (format : Format) (bounds : Bounds) (log_before : List Entry) (before after : Account) (fault : ScriptFault) : Type 0 where
  pub stopped : Stops alone (run_start format log_before bounds before.contents) fault before.remaining after.remaining after.contents after.read_failed
  pub failed : FailedBy fault before after
