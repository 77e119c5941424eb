-- What compacting a script did to its reader and writer.
use Rattle.std.specs.Prelude.{◌≡◌, ℕ, List, [], Bool, true, Option, length}
use Rattle.std.specs.Io.KnownBytes.{Appends}
use Rattle.pgp_lines.specs.declared.command.format.Format.{Format}
use Rattle.pgp_core.specs.Added.{entry_lines}
use Rattle.pgp_core.specs.Lines.{lines_of}
use Rattle.pgp_core.specs.Output.{FrontWent}
use Rattle.pgp_core.specs.Run.{script_bounds}
use Rattle.pgp_core.specs.Whole.{IsWholeScript}
use Rattle.pgp_whole.specs.Joining.{HasJoinedCounts, StandsFor}
use Rattle.pgp_whole.specs.Remaining.{compacted_text, remaining_lines}
use Rattle.pgp_whole.specs.declared.compact.Compaction.{Compaction}
use Rattle.pgp_whole.specs.declared.compact.CompactMode.{CompactMode}
use Rattle.pgp_whole.specs.declared.compact.CompactMode.TheVariants.{Remaining, Joined}

-- how many entries the script has, where lines up to this version are read, and how many of them remain
pub record HasCounts (format : Format) (script : List ℕ) (counts : Compaction) : Type 0 where
  pub entries : counts.entries ≡ length (entry_lines format [] (lines_of script))
  pub kept : counts.kept ≡ length (remaining_lines format script)

-- this text is what remains of the script, or stands for it, and the counts are those of its entries
abbrev pub IsWritten : CompactMode → (script text : List ℕ) → Compaction → Type 0
IsWritten (Remaining format) script text counts = (text ≡ compacted_text format script) × HasCounts format script counts
IsWritten Joined script text counts = StandsFor script text × HasJoinedCounts script text counts

-- The reader gave a script to its end, and the writer got what is written of it.
pub record IsCompacted (mode : CompactMode) (counts : Compaction) (from to start now : Option (List ℕ)) : Type 0 where
  pub script : List ℕ
  pub text : List ℕ
  pub whole : IsWholeScript script_bounds script from to
  pub went : Appends start now text
  pub written : IsWritten mode script text counts

-- A write failed, after the script was read whole: a first part of what is written of it went out.
pub record IsCompactedInPart (mode : CompactMode) (from to start now : Option (List ℕ)) (write_failed : Bool) : Type 0 where
  pub script : List ℕ
  pub text : List ℕ
  pub counts : Compaction
  pub whole : IsWholeScript script_bounds script from to
  pub front : FrontWent start now text
  pub written : IsWritten mode script text counts
  pub failed : write_failed ≡ true
