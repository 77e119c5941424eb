-- What may be written of a script in which incrementals are joined. Lines up to version 3 are read.
use Rattle.std.specs.Prelude.{◌≡◌, ℕ, List, [], length}
use Rattle.pgp_lines.specs.declared.command.format.Format.TheVariants.{Three}
use Rattle.pgp_core.specs.Added.{entry_lines, log_of_lines}
use Rattle.pgp_core.specs.Lines.{lines_of}
use Rattle.pgp_join.specs.Bound.{IsJoinedLog}
use Rattle.pgp_whole.specs.Remaining.{compacted_text}
use Rattle.pgp_whole.specs.declared.compact.Compaction.{Compaction}

-- the log of this text may stand for that of the script where it is compacted
abbrev pub StandsFor : (script text : List ℕ) → Type 0
StandsFor script text = IsJoinedLog (log_of_lines Three (lines_of (compacted_text Three script))) (log_of_lines Three (lines_of text))

-- how many entries the script has, and how many the text
pub record HasJoinedCounts (script text : List ℕ) (counts : Compaction) : Type 0 where
  pub entries : counts.entries ≡ length (entry_lines Three [] (lines_of script))
  pub kept : counts.kept ≡ length (log_of_lines Three (lines_of text))
