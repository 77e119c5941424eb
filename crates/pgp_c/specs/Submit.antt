-- How an entry that C tells in values ends. This project's own choice.
use Rattle.std.specs.Prelude.{◌≡◌, ◌⊎◌, ℕ, Option, Some, None}
use Rattle.pgp_ids.specs.declared.entry.Entry.{Entry}
use Rattle.pgp_ids.specs.declared.entry.Entry.TheVariants as entry
use Rattle.pgp_ids.specs.Refusal.{refusal_number}
use Rattle.pgp_group.specs.Entries.{inc_of}
use Rattle.pgp_log.specs.Fits.{fits}
use Rattle.pgp_lines.specs.declared.command.Command.TheVariants.{Submit}
use Rattle.pgp_text.specs.declared.reply.Reply.{Reply}
use Rattle.pgp_text.specs.declared.reply.Reply.TheVariants.{Accepted, Asked, Located, Traced, Refused}
use Rattle.pgp_text.specs.declared.reply.line_refusal.LineRefusal.TheVariants as why
use Rattle.pgp_core.specs.Session.{LogAndAnswer, log_then, reply_in}
use Rattle.pgp_core.specs.Wants.{MayFindNone}
use Rattle.pgp_c.specs.Status.{status_number}
use Rattle.pgp_c.specs.declared.status.Status.TheVariants.{Done, NoMemory, NotOpen}

-- the number of the refusal, where the reply says that the log doesn't take an entry
abbrev pub reply_status : Reply → ℕ
reply_status (Accepted op count epoch) = status_number Done
reply_status (Asked pg view) = status_number Done
reply_status (Located pg members epoch) = status_number Done
reply_status (Traced first past) = status_number Done
reply_status (Refused (why.Entry refusal)) = refusal_number refusal
reply_status (Refused (why.Ask refusal)) = status_number Done
reply_status (Refused (why.Locate refusal)) = status_number Done
reply_status (Refused (why.Line fault)) = status_number Done

-- the entry was told, and there was memory for it
pub record IsEntryTold (was now : LogAndAnswer) (new : Entry) (status : ℕ) : Type 0 where
  pub log : now.log ≡ log_then was.log (Submit new)
  pub status_is : status ≡ reply_status (reply_in was.log (Submit new))

-- there was no memory for the entry, which is one that the log takes, or an incremental at which its map may lack it: so any other
-- entry is one that the log takes
pub record IsLackingMemory (was now : LogAndAnswer) (new : Entry) (status : ℕ) : Type 0 where
  pub may : MayFindNone was.log (Submit new)
  pub takes : inc_of new ≡ None → fits was.log new ≡ None
  pub log : now.log ≡ was.log
  pub status_is : status ≡ status_number NoMemory

-- An entry was told to a session, which goes from `was` to `now`.
pub record TellsEntry (was now : LogAndAnswer) (new : Entry) (status : ℕ) : Type 0 where
  pub answer : now.answer ≡ was.answer
  pub format : now.format ≡ was.format
  pub told : IsEntryTold was now new status ⊎ IsLackingMemory was now new status

-- The log of a session was closed by its last entry, where there is a session.
abbrev pub SubmitsClose : Option LogAndAnswer → Option LogAndAnswer → ℕ → Type 0
SubmitsClose None now status = (now ≡ None) × (status ≡ status_number NotOpen)
SubmitsClose (Some was) None status = ⊥
SubmitsClose (Some was) (Some now) status = TellsEntry was now entry.Close status
