-- What the program did to its reader and writer, by how it ended.
use Rattle.std.specs.Prelude.{◌≡◌, ◌⊎◌, List, ℕ, Bool, false, true, Result, IfErr, OnOk}
use Rattle.std.specs.Io.KnownBytes.{Appends}
use Rattle.pgp_whole.specs.Compaction.{IsCompacted, IsCompactedInPart}
use Rattle.pgp_whole.specs.declared.compact.Compaction.{Compaction}
use Rattle.pgp_whole.specs.declared.compact.CompactMode.{CompactMode}
use Rattle.pgp_lines.specs.declared.command.format.Format.{Format}
use Rattle.pgp_core.specs.Account.{Account, NoCallFailed, account}
use Rattle.pgp_core.specs.Output.{FrontWent}
use Rattle.pgp_core.specs.Run.{AllAnswered, Stopped, script_bounds}
use Rattle.pgp_core.specs.Streams.{SinkState, SourceState}
use Rattle.pgp_core.specs.declared.fault.ScriptFault.{ScriptFault}
use Rattle.pgp_core.specs.declared.fault.ScriptFault.TheVariants.{Gone}
use Rattle.pgp_whole.specs.Explanation.{IsExplained, IsExplainedInPart}
use Rattle.pgp_whole.specs.declared.subcommand.Question.{Question}
use Rattle.pgp_cli.specs.declared.ending.Ending.{Ending}
use Rattle.pgp_cli.specs.declared.ending.Ending.TheVariants.{Done, Usage, Fault}

-- a script was answered to its end, by one thread alone or over an engine, and no call failed
pub record RunIsDone (before after : Account) : Type 0 where
  pub alone : Bool
  pub format : Format
  pub answered : AllAnswered alone format script_bounds before after

-- a fault stopped the run, and what had been answered by then stands
pub record RunIsStopped (before after : Account) : Type 0 where
  pub alone : Bool
  pub format : Format
  pub fault : ScriptFault
  pub stopped : Stopped alone format script_bounds before after fault

-- A run over an engine answered the script to its end, and what it wrote was passed on; or a fault stopped it; or there is no engine
-- with all of its workers, and nothing was read or written.
pub record HasRun {T R W : Type 0} (source : R → SourceState) (sink : W → SinkState) (format : Format) (result : Result T ScriptFault)
    (reader : R) (writer : W) (read : R) (written : W) : Type 0 where
  pub ok : OnOk result (AllAnswered false format script_bounds (account (source reader) (sink writer)) (account (source read) (sink written)))
  pub err : IfErr result (λ fault. ((fault ≡ Gone) × (read ≡ reader) × (written ≡ writer))
      ⊎ Stopped false format script_bounds (account (source reader) (sink writer)) (account (source read) (sink written)) fault)
  pub passed_on : OnOk result ((sink written).passed_on ≡ true)

-- a script was read to its end, the writer got what its log says of a group or of all, and no call failed
pub record ExplainIsDone (before after : Account) : Type 0 where
  pub asked : Question
  pub explained : IsExplained asked before.remaining after.remaining before.contents after.contents
  pub quiet : NoCallFailed before after

-- the writer got the lines that remain of the reader's script, or lines that stand for those, where incrementals are joined, and no
-- call failed
pub record CompactIsDone (before after : Account) : Type 0 where
  pub mode : CompactMode
  pub counts : Compaction
  pub compacted : IsCompacted mode counts before.remaining after.remaining before.contents after.contents
  pub quiet : NoCallFailed before after

-- a text of help was written, nothing was read, and no call failed
pub record HelpIsShown (before after : Account) : Type 0 where
  pub text : List ℕ
  pub went : Appends before.contents after.contents text
  pub unread : after.remaining ≡ before.remaining
  pub quiet : NoCallFailed before after

-- a write failed: a first part went out of what a log says of a group or of all, of the lines that remain of a script or stand for these,
-- or of help
pub record IsCut (before after : Account) : Type 0 where
  pub part : ((asked : Question) × IsExplainedInPart asked before.remaining after.remaining before.contents after.contents)
      ⊎ (((mode : CompactMode) × IsCompactedInPart mode before.remaining after.remaining before.contents after.contents after.write_failed)
      ⊎ ((text : List ℕ) × FrontWent before.contents after.contents text))
  pub failed : after.write_failed ≡ true

-- What the program did: one thing to its end (`Done`); nothing (`Usage`); or, where a fault ended it, a run as far as
-- it came, nothing that was written, or a part that a failed write cut off.
abbrev pub HasEnded : Ending → (before after : Account) → Type 0
HasEnded Done before after =
    RunIsDone before after ⊎ (ExplainIsDone before after ⊎ (CompactIsDone before after ⊎ HelpIsShown before after))
HasEnded Usage before after = after ≡ before
HasEnded Fault before after = RunIsStopped before after ⊎ ((after.contents ≡ before.contents) ⊎ IsCut before after)
