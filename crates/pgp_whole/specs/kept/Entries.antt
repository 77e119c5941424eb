-- What is read of a script so far, while its lines are taken into a log one by one.
use Rattle.std.specs.Prelude.{◌≡◌, ℕ, List, [], ◌∷◌, ◌++◌, map}
use Rattle.pgp_lines.specs.declared.command.format.Format.{Format}
use Rattle.pgp_core.specs.Added.{EntryLine, entries_of_lines, entry_lines}
use Rattle.pgp_core.specs.declared.outcome.LineOutcome.{LineOutcome}
use Rattle.pgp_core.specs.declared.outcome.LineOutcome.TheVariants.{Taken}
use Rattle.pgp_whole.specs.Remaining.{bare}
use Rattle.pgp_whole.specs.declared.entries.ScriptEntries.{ScriptEntries}

-- the lines that are kept so far
abbrev pub texts : ScriptEntries → List (List ℕ)
texts read = map (λ line. line.now) read.lines.items

-- a line that added an entry is kept
abbrev pub kept_of : LineOutcome → List ℕ → List (List ℕ)
kept_of Taken line = line ∷ []
kept_of other line = []

-- The lines of the script before the rest were taken: the log has their entries, and these are the lines that added them.
pub record IsReadTo (format : Format) (lines rest : List (List ℕ)) (read : ScriptEntries) : Type 0 where
  pub done : List EntryLine
  pub log_is : read.log ≡ entries_of_lines done
  pub lines_are : texts read ≡ bare done
  pub goes_on : done ++ entry_lines format read.log rest ≡ entry_lines format [] lines
