-- What whoever answers the commands of a script may reply.
use Rattle.std.specs.Prelude.{◌≡◌, List, Bool, true, false}
use Rattle.pgp_ids.specs.declared.entry.Entry.{Entry}
use Rattle.pgp_lines.specs.declared.command.Command.{Command}
use Rattle.pgp_text.specs.declared.reply.Reply.{Reply}
use Rattle.pgp_text.specs.declared.reply.Reply.TheVariants.{Accepted, Asked, Located, Traced, Refused}
use Rattle.pgp_log.specs.Log.{IsFrontOf, is_legal}
use Rattle.pgp_core.specs.Answer.{reply_of, log_after}

-- By which log a command may be answered: by the one that there was, where nobody else adds to it, and else by any one of
-- which that is a front, and which is legal if that is.
abbrev pub MayAnswerBy : Bool → List Entry → List Entry → Type 0
MayAnswerBy true log by = by ≡ log
MayAnswerBy false log by = IsFrontOf log by × (is_legal log ≡ true → is_legal by ≡ true)

-- this is the reply to the command, and the log goes from `before` to `after`
pub record Replies (alone : Bool) (before after : List Entry) (command : Command) (reply : Reply) : Type 0 where
  pub by : List Entry
  pub may : MayAnswerBy alone before by
  pub is : reply ≡ reply_of by command
  pub log : after ≡ log_after by command

-- it says that the log took an entry
abbrev pub says_accepted : Reply → Bool
says_accepted (Accepted op count epoch) = true
says_accepted (Asked pg view) = false
says_accepted (Located pg members epoch) = false
says_accepted (Traced first past) = false
says_accepted (Refused refused) = false
