-- The lines of a script that remain where its log is compacted. This project's own choice.
use Rattle.std.specs.Prelude.{ℕ, List, [], ◌∷◌, ◌++◌, map, flat_map}
use Rattle.pgp_lines.specs.declared.command.format.Format.{Format}
use Rattle.pgp_core.specs.Added.{EntryLine, entries_of_lines, entry_lines}
use Rattle.pgp_core.specs.Lines.{lines_of}
use Rattle.pgp_compact.specs.Compacted.{is_needed}
use Rattle.pgp_compact.specs.Needed.{needed_of}

-- of the lines that make a log those whose entry remains
abbrev pub remaining : List EntryLine → List EntryLine
remaining lines = needed_of (λ later it. is_needed (entries_of_lines lines) (entries_of_lines later) it.entry) lines

-- the lines without their entries
abbrev pub bare : List EntryLine → List (List ℕ)
bare lines = map (λ it. it.line) lines

-- lines, each with a line feed
abbrev pub text_of_lines : List (List ℕ) → List ℕ
text_of_lines lines = flat_map (λ line. line ++ 10 ∷ []) lines

-- the lines that remain of a script, where lines up to this version are read
abbrev pub remaining_lines : Format → List ℕ → List (List ℕ)
remaining_lines format script = bare (remaining (entry_lines format [] (lines_of script)))

-- what is written of a script
abbrev pub compacted_text : Format → List ℕ → List ℕ
compacted_text format script = text_of_lines (remaining_lines format script)
