-- Lines whose log may stand for another one. Lines up to version 3 are read. This project's own choice.
use Rattle.std.specs.Prelude.{◌≡◌, ℕ, ◌≤◌, List, length}
use Rattle.pgp_ids.specs.declared.entry.Entry.{Entry}
use Rattle.pgp_lines.specs.declared.command.format.Format.TheVariants.{Three}
use Rattle.pgp_core.specs.Added.{log_of_lines}
use Rattle.pgp_core.specs.Lines.{lines_of}
use Rattle.pgp_group.specs.Entries.{incs_of}
use Rattle.pgp_join.specs.Alike.{AreAlike}

-- The log of this text may stand for the log. It has so many entries, and at most so many incrementals.
pub record MayStandFor (log : List Entry) (text : List ℕ) (entries most : ℕ) : Type 0 where
  pub alike : AreAlike log (log_of_lines Three (lines_of text))
  pub entries_are : entries ≡ length (log_of_lines Three (lines_of text))
  pub few : length (incs_of (log_of_lines Three (lines_of text))) ≤ most
