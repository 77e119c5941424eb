-- What a session stands for, and what a line does to it. This project's own choice.
use Rattle.std.specs.Prelude.{ℕ, List, [], ◌∷◌, ◌++◌, Option, Some, None, Result, Ok, Err}
use Rattle.pgp_ids.specs.declared.entry.Entry.{Entry}
use Rattle.pgp_ids.specs.declared.pg_id.PgId.{PgId}
use Rattle.pgp_ids.specs.declared.view.View.{View}
use Rattle.pgp_group.specs.View.{scratch}
use Rattle.pgp_lines.specs.declared.command.Command.{Command}
use Rattle.pgp_lines.specs.declared.command.format.Format.{Format}
use Rattle.pgp_text.specs.declared.reply.Reply.{Reply}
use Rattle.pgp_core.specs.Answer.{long_text, log_after, reply_of}
use Rattle.pgp_core.specs.Script.{want_text}
use Rattle.pgp_core.specs.declared.want.Want.{Want}
use Rattle.pgp_core.specs.declared.session.LastAnswer.{LastAnswer}
use Rattle.pgp_core.specs.declared.session.LastAnswer.TheVariants.{Written, LineTooLong, NoMemory}

-- up to which version it reads lines, its log, and what was written for the last line, with its line feed: nothing before the first line and for a blank one
pub record LogAndAnswer : Type 0 where
  pub format : Format
  pub log : List Entry
  pub answer : List ℕ

-- what was written for the last line, where this is the text of an answer of its own
abbrev pub last_text : LastAnswer → List ℕ → List ℕ
last_text Written text = text
last_text LineTooLong text = long_text ++ 10 ∷ []
last_text (NoMemory want) text = want_text want ++ 10 ∷ []

-- what there was no memory for at a line, if anything, where this is the result of its call
abbrev pub met_by : Result (Unit {0}) Want → Option Want
met_by (Ok done) = None
met_by (Err want) = Some want

-- ---- the definitions once more, under names that a proof above reads no further than

-- the reply to a command
unfoldable pub reply_in : List Entry → Command → Reply
reply_in log command = reply_of log command

-- the log after a command
unfoldable pub log_then : List Entry → Command → List Entry
log_then log command = log_after log command

-- what the log says of a group
unfoldable pub view_in : List Entry → PgId → Option View
view_in log pg = scratch log pg
