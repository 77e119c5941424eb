-- Which log a script makes, and whether one of its lines is refused, where lines up to some version are read.
use Rattle.std.specs.Prelude.{◌≡◌, ◌⊎◌, ℕ, List, [], ◌∷◌, Option}
use Rattle.pgp_ids.specs.declared.entry.Entry.{Entry}
use Rattle.pgp_lines.specs.declared.command.format.Format.{Format}
use Rattle.pgp_text.specs.declared.reply.line_refusal.LineRefusal.{LineRefusal}
use Rattle.pgp_text.specs.declared.reply.Reply.TheVariants as reply
use Rattle.pgp_core.specs.Added.{IsRefusedBy, added_by, log_of_lines, with_added}
use Rattle.pgp_core.specs.Lines.{lines_of}
use Rattle.pgp_core.specs.Run.{script_bounds}
use Rattle.pgp_core.specs.Whole.{IsWholeScript}
use Rattle.pgp_whole.specs.declared.subcommand_fault.SubcommandFault.{SubcommandFault}
use Rattle.pgp_whole.specs.declared.subcommand_fault.SubcommandFault.TheVariants.{Script}

-- The reader gave a script within its bounds, to its end, and this is the log that its lines make.
pub record IsLogOfScript (format : Format) (log : List Entry) (from to : Option (List ℕ)) : Type 0 where
  pub script : List ℕ
  pub whole : IsWholeScript script_bounds script from to
  pub makes : log ≡ log_of_lines format (lines_of script)

-- a run would refuse the line
abbrev pub IsRefusedLine : Format → List Entry → List ℕ → Type 0
IsRefusedLine format log line = (why : LineRefusal) × IsRefusedBy format log line (reply.Refused why)

-- it would refuse one of the lines, each by the log that those before it make
abbrev pub HasRefused : Format → List Entry → List (List ℕ) → Type 0
HasRefused format log [] = ⊥
HasRefused format log (line ∷ lines) = IsRefusedLine format log line ⊎ HasRefused format (with_added log (added_by format log line)) lines

-- The reader gave a script within its bounds, to its end, and a run would refuse one of its lines.
pub record IsRefusedInPart (format : Format) (from to : Option (List ℕ)) : Type 0 where
  pub script : List ℕ
  pub whole : IsWholeScript script_bounds script from to
  pub refused : HasRefused format [] (lines_of script)

-- why a script makes no log: a read failed, it is larger than its bounds, or there was no memory
abbrev pub IsOfReading : SubcommandFault → Type 0
IsOfReading (Script why) = Unit {0}
IsOfReading other = ⊥
