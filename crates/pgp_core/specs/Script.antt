-- The text of a script: what is written for its lines, of which those up to some version are read, where some of them may have been out of memory.
use Rattle.std.specs.Prelude.{◌≡◌, ℕ, ◌≤◌, List, [], ◌∷◌, ◌++◌, Option, Some, None, Ok, false, nat_lt, length, take, flat_map, slice_index_or, if◌then◌else◌}
use Rattle.std.specs.List.{range_with_len}
use Rattle.pgp_ids.specs.declared.entry.Entry.{Entry}
use Rattle.pgp_ids.specs.declared.refusal.Refusal.TheVariants as refusal
use Rattle.pgp_ids.specs.declared.text_fault.TextFault.TheVariants as fault
use Rattle.pgp_lines.specs.Command.{command_of}
use Rattle.pgp_text.specs.Reply.{reply_text}
use Rattle.pgp_lines.specs.declared.command.Command.TheVariants.{Submit}
use Rattle.pgp_lines.specs.declared.command.format.Format.{Format}
use Rattle.pgp_text.specs.declared.reply.Reply.TheVariants.{Refused}
use Rattle.pgp_text.specs.declared.reply.line_refusal.LineRefusal.TheVariants as why
use Rattle.pgp_core.specs.Answer.{line_text, line_log, long_text}
use Rattle.pgp_core.specs.Lines.{cut, lines_of, is_blank}
use Rattle.pgp_core.specs.declared.input.Bounds.{Bounds}
use Rattle.pgp_core.specs.declared.want.Want.{Want}
use Rattle.pgp_core.specs.declared.want.Want.TheVariants as want

-- how many bytes a line has at most
abbrev pub longest_line : ℕ
longest_line = 1048576

-- the line was read as an entry
pub record IsEntryLine (format : Format) (line : List ℕ) : Type 0 where
  pub short : length line ≤ longest_line
  pub entry : Entry
  pub reads : command_of format line ≡ Ok (Submit entry)

-- What there can be no memory for at a line: for the line itself only where it isn't blank and not too long, for an entry only
-- where the line was read as one. So a blank line never has an answer, and one that is too long always has its own.
abbrev pub MayMeet : Format → Option Want → List ℕ → Type 0
MayMeet format None line = Unit {0}
MayMeet format (Some want.Line) line = (is_blank line ≡ false) × (length line ≤ longest_line)
MayMeet format (Some want.Entry) line = IsEntryLine format line

-- the text for a line that was out of memory
abbrev pub want_text : Want → List ℕ
want_text want.Line = reply_text (Refused (why.Line fault.Memory))
want_text want.Entry = reply_text (Refused (why.Entry refusal.Memory))

-- the answer to a line that is not blank
abbrev pub reply_text_of : Format → List Entry → List ℕ → List ℕ
reply_text_of format log line = if nat_lt longest_line (length line) then long_text else line_text format log line

-- What is written for a line, given the log before it and what there was no memory for, if anything. A line that was out of
-- memory has its constant text; of the others a blank one has nothing, and each other one line.
abbrev pub answer : Format → List Entry → Option Want → List ℕ → List ℕ
answer format log (Some want) line = want_text want ++ 10 ∷ []
answer format log None line = if is_blank line then [] else reply_text_of format log line ++ 10 ∷ []

-- the log after a line
abbrev pub log_past : Format → List Entry → Option Want → List ℕ → List Entry
log_past format log (Some want) line = log
log_past format log None line = if is_blank line then log else (if nat_lt longest_line (length line) then log else line_log format log line)

-- the log after lines, given the log before them and of each what there was no memory for, if anything
abbrev pub logs : Format → List Entry → List (Option Want) → List (List ℕ) → List Entry
logs format log [] lines = log
logs format log (met ∷ more) [] = log
logs format log (met ∷ more) (line ∷ lines) = logs format (log_past format log met line) more lines

-- what is written for the line at this place: the answer to it, given the log after the lines before it
abbrev pub answer_at : Format → List Entry → List (Option Want) → List (List ℕ) → ℕ → List ℕ
answer_at format log met lines place =
    answer format (logs format log (take place met) (take place lines)) (slice_index_or met place None) (slice_index_or lines place [])

-- What is written for lines, given the log before them and of each what there was no memory for, if anything: one after the
-- other what is written for each.
abbrev pub answers : Format → List Entry → List (Option Want) → List (List ℕ) → List ℕ
answers format log met lines = flat_map (answer_at format log met lines) (range_with_len 0 (length met))

-- each of the first lines can be out of memory as is said of it
abbrev pub MayMeetEach : Format → List (Option Want) → List (List ℕ) → Type 0
MayMeetEach format [] lines = Unit {0}
MayMeetEach format (met ∷ more) [] = ⊥
MayMeetEach format (met ∷ more) (line ∷ lines) = MayMeet format met line × MayMeetEach format more lines

-- `out` is the answers to these lines, by the log before them, and the log goes from `before` to `after`. Some of the lines may
-- have been out of memory, each as it can be.
pub record Answers (format : Format) (before after : List Entry) (lines : List (List ℕ)) (out : List ℕ) : Type 0 where
  pub met : List (Option Want)
  pub each : length met ≡ length lines
  pub may : MayMeetEach format met lines
  pub text : out ≡ answers format before met lines
  pub log : after ≡ logs format before met lines

-- the bytes that are written for a script, given of each line what there was no memory for, if anything
abbrev pub script_text : Format → List (Option Want) → List ℕ → List ℕ
script_text format met script = answers format [] met (lines_of script)

-- ---- how large a script may be

-- it has at most as many lines and bytes as the bounds say
pub record Within (bounds : Bounds) (script : List ℕ) : Type 0 where
  pub few_lines : length (lines_of script) ≤ bounds.lines
  pub few_bytes : length script ≤ bounds.bytes

-- it is larger than that
abbrev pub IsBeyond : Bounds → List ℕ → Type 0
IsBeyond bounds script = Within bounds script → ⊥

-- the lines that a line feed ends, of a script that is cut off at these bounds
abbrev pub whole_lines : Bounds → List ℕ → List (List ℕ)
whole_lines bounds script = take bounds.lines (cut (take bounds.bytes script)).whole
