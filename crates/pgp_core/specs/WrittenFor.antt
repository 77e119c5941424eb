-- What is written for lines, of which those up to some version are read, whoever answers their commands.
use Rattle.std.specs.Prelude.{◌≡◌, ℕ, ◌≤◌, List, [], ◌∷◌, ◌++◌, length, Bool, false, Option, Some, Ok}
use Rattle.pgp_ids.specs.declared.entry.Entry.{Entry}
use Rattle.pgp_lines.specs.Command.{command_of}
use Rattle.pgp_text.specs.Reply.{reply_text}
use Rattle.pgp_lines.specs.declared.command.Command.{Command}
use Rattle.pgp_lines.specs.declared.command.format.Format.{Format}
use Rattle.pgp_core.specs.Answer.{reply_of, log_after, line_text, line_log}
use Rattle.pgp_core.specs.Answerer.{MayAnswerBy}
use Rattle.pgp_core.specs.Script.{MayMeet, answer, log_past, longest_line}
use Rattle.pgp_core.specs.declared.want.Want.{Want}
use Rattle.pgp_core.specs.declared.answer.NoReply.{NoReply}
use Rattle.pgp_core.specs.declared.answer.NoReply.TheVariants.{Memory, Gone}

-- the text of the reply to the command was put behind the text, and the log goes from `before` to `after`
pub record PutsReply (alone : Bool) (before after : List Entry) (command : Command) (old new : List ℕ) : Type 0 where
  pub by : List Entry
  pub may : MayAnswerBy alone before by
  pub text : new ≡ old ++ (reply_text (reply_of by command) ++ 10 ∷ [])
  pub log : after ≡ log_after by command

-- the same of a line that isn't blank and not too long
pub record PutsText (alone : Bool) (format : Format) (before after : List Entry) (line old new : List ℕ) : Type 0 where
  pub by : List Entry
  pub may : MayAnswerBy alone before by
  pub text : new ≡ old ++ (line_text format by line ++ 10 ∷ [])
  pub log : after ≡ line_log format by line

-- this text is written for the line, and the log goes from `before` to `after`
pub record IsWrittenFor (alone : Bool) (format : Format) (before after : List Entry) (line text : List ℕ) : Type 0 where
  pub by : List Entry
  pub may : MayAnswerBy alone before by
  pub met : Option Want
  pub meets : MayMeet format met line
  pub text_is : text ≡ answer format by met line
  pub log_is : after ≡ log_past format by met line

-- what is written for the line was put behind the text, except for `rest`, and the log goes from `before` to `after`
pub record PutsLine (alone : Bool) (format : Format) (before after : List Entry) (line old new rest : List ℕ) : Type 0 where
  pub text : List ℕ
  pub told : IsWrittenFor alone format before after line text
  pub whole : new ++ rest ≡ old ++ text

-- nobody answers the line any more: it was read as a command, and others add to the log too
pub record IsLeft (alone : Bool) (format : Format) (line : List ℕ) : Type 0 where
  pub shared : alone ≡ false
  pub short : length line ≤ longest_line
  pub command : Command
  pub reads : command_of format line ≡ Ok command

-- the first of these lines is one that nobody answers any more
abbrev pub StartsLeft : Bool → Format → List (List ℕ) → Type 0
StartsLeft alone format [] = ⊥
StartsLeft alone format (line ∷ lines) = IsLeft alone format line

-- why the line may have no answer of its own
abbrev pub MayLack : Bool → Format → NoReply → List ℕ → Type 0
MayLack alone format (Memory want) line = MayMeet format (Some want) line
MayLack alone format Gone line = IsLeft alone format line

-- between the first line and the others: the log then, what was written before, and what after
pub record Turn : Type 0 where
  pub log : List Entry
  pub first : List ℕ
  pub others : List ℕ

-- this text is written for the lines, one after the other, and the log goes from `before` to `after`
abbrev pub AreWrittenFor : (alone : Bool) (format : Format) (before : List Entry) (lines : List (List ℕ)) (after : List Entry) (text : List ℕ) → Type 0
AreWrittenFor alone format before [] after text = (after ≡ before) × (text ≡ [])
AreWrittenFor alone format before (line ∷ lines) after text =
    (turn : Turn) × (IsWrittenFor alone format before turn.log line turn.first × AreWrittenFor alone format turn.log lines after turn.others × (text ≡ turn.first ++ turn.others))
