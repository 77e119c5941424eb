-- Which lines of a script add an entry to the log, and what any other line is, where lines up to some version are read. This project's own choice.
use Rattle.std.specs.Prelude.{◌≡◌, ℕ, List, [], ◌∷◌, ◌++◌, Bool, true, false, Option, Some, None, Result, Ok, Err, is_none, length, map, nat_lt, if◌then◌else◌}
use Rattle.std.specs.Option.{option_map_or}
use Rattle.pgp_ids.specs.declared.entry.Entry.{Entry}
use Rattle.pgp_lines.specs.Command.{command_of}
use Rattle.pgp_lines.specs.LineFault.{LineFault}
use Rattle.pgp_text.specs.Reply.{reply_text}
use Rattle.pgp_lines.specs.declared.command.Command.{Command}
use Rattle.pgp_lines.specs.declared.command.Command.TheVariants.{Submit, Ask, Locate, Trace}
use Rattle.pgp_lines.specs.declared.command.format.Format.{Format}
use Rattle.pgp_log.specs.Fits.{fits}
use Rattle.pgp_text.specs.declared.reply.Reply.{Reply}
use Rattle.pgp_text.specs.declared.reply.Reply.TheVariants as reply
use Rattle.pgp_core.specs.Answer.{reply_of}
use Rattle.pgp_core.specs.Lines.{is_blank}
use Rattle.pgp_core.specs.Script.{longest_line, reply_text_of}
use Rattle.pgp_core.specs.declared.outcome.LineOutcome.{LineOutcome}
use Rattle.pgp_core.specs.declared.outcome.LineOutcome.TheVariants.{Blank, Taken, Asked, Refused}

-- ---- the entries

-- the entry that the log takes from this command, if it takes one
abbrev pub taken_from : List Entry → Command → Option Entry
taken_from log (Submit entry) = if is_none (fits log entry) then Some entry else None
taken_from log (Ask pg) = None
taken_from log (Locate pool name) = None
taken_from log (Trace code epochs) = None

-- the same, where this was read of a line
abbrev pub taken_of_read : List Entry → Result Command LineFault → Option Entry
taken_of_read log (Ok command) = taken_from log command
taken_of_read log (Err fault) = None

-- the entry that a line adds to the log, if it adds one
abbrev pub added_by : Format → List Entry → List ℕ → Option Entry
added_by format log line =
    if is_blank line then None else (if nat_lt longest_line (length line) then None else taken_of_read log (command_of format line))

-- the log after that
abbrev pub with_added : List Entry → Option Entry → List Entry
with_added log entry = option_map_or (λ it. log ++ it ∷ []) entry log

-- a line that adds an entry, and the entry
pub record EntryLine : Type 0 where
  pub line : List ℕ
  pub entry : Entry

abbrev pub entry_line : List ℕ → Entry → EntryLine
entry_line line entry = record { line = line; entry = entry }

-- the lines that add an entry, each with its entry, where the log has these entries before them
abbrev pub entry_lines : Format → List Entry → List (List ℕ) → List EntryLine
entry_lines format log [] = []
entry_lines format log (line ∷ lines) =
    option_map_or (λ entry. entry_line line entry ∷ entry_lines format (log ++ entry ∷ []) lines) (added_by format log line) (entry_lines format log lines)

abbrev pub entries_of_lines : List EntryLine → List Entry
entries_of_lines lines = map (λ it. it.entry) lines

-- the log that the lines of a script make
abbrev pub log_of_lines : Format → List (List ℕ) → List Entry
log_of_lines format lines = entries_of_lines (entry_lines format [] lines)

-- ---- any other line

abbrev pub is_question : Command → Bool
is_question (Submit entry) = false
is_question (Ask pg) = true
is_question (Locate pool name) = true
is_question (Trace code epochs) = true

abbrev pub is_refusal : Reply → Bool
is_refusal (reply.Refused why) = true
is_refusal _ = false

-- the line asks what has an answer
pub record IsQuestion (format : Format) (log : List Entry) (line : List ℕ) : Type 0 where
  pub command : Command
  pub reads : command_of format line ≡ Ok command
  pub question : is_question command ≡ true
  pub answered : is_refusal (reply_of log command) ≡ false

-- a run would answer the line by this refusal
pub record IsRefusedBy (format : Format) (log : List Entry) (line : List ℕ) (why : Reply) : Type 0 where
  pub some : is_blank line ≡ false
  pub refused : reply_text_of format log line ≡ reply_text why

-- what the line is to the log before it
abbrev pub IsOutcome : Format → List Entry → List ℕ → LineOutcome → Type 0
IsOutcome format log line Blank = is_blank line ≡ true
IsOutcome format log line Taken = (entry : Entry) × (added_by format log line ≡ Some entry)
IsOutcome format log line Asked = (added_by format log line ≡ None) × IsQuestion format log line
IsOutcome format log line (Refused why) = (added_by format log line ≡ None) × IsRefusedBy format log line (reply.Refused why)

-- the same, where the line was read as this command
abbrev pub IsOutcomeOf : List Entry → Command → LineOutcome → Type 0
IsOutcomeOf log command Blank = ⊥
IsOutcomeOf log command Taken = (entry : Entry) × (taken_from log command ≡ Some entry)
IsOutcomeOf log command Asked = (taken_from log command ≡ None) × (is_question command ≡ true) × (is_refusal (reply_of log command) ≡ false)
IsOutcomeOf log command (Refused why) = (taken_from log command ≡ None) × (reply_of log command ≡ reply.Refused why)
