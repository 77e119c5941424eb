-- What a reply says of the log.
use Rattle.std.proofs.Common.{◌≡◌, ℕ, List, [], ◌∷◌, ◌++◌, length, Bool, true, false, Option, Some, None, option_map, Result, Ok, Err, OnErr, IsOk, inl, inr, refl, subst, sym, ap, ap₂, ◌∙◌}
use Rattle.std.specs.Result.{result_or}
use Rattle.std.specs.Prelude.{◌≢◌, IfSome, string_bytes}
use Rattle.std.proofs.lemmas.Bool.{cases_Bool}
use Rattle.pgp_ids.specs.declared.entry.Entry.{Entry}
use Rattle.pgp_ids.specs.declared.pg_id.PgId.{PgId}
use Rattle.pgp_ids.specs.declared.view.View.{View}
use Rattle.pgp_ids.specs.declared.refusal.Refusal.{Refusal}
use Rattle.pgp_group.specs.Touched.{view_at}
use Rattle.pgp_group.specs.View.{scratch}
use Rattle.pgp_lines.specs.declared.command.Command.{Command}
use Rattle.pgp_lines.specs.declared.command.Command.TheVariants.{Submit, Ask, Locate, Trace}
use Rattle.pgp_lines.specs.declared.command.format.Format.{Format}
use Rattle.pgp_text.specs.declared.reply.Reply.{Reply}
use Rattle.pgp_log.specs.Fits.{fits}
use Rattle.pgp_log.specs.Log.{epoch_of}
use Rattle.pgp_lines.specs.Command.{command_of}
use Rattle.pgp_ids.specs.declared.text_fault.TextFault.{TextFault}
use Rattle.pgp_ids.specs.declared.text_fault.TextFault.TheVariants.{LineTooLong, NotJson, NoOp, UnknownKey, BadField, Memory}
use Rattle.pgp_lines.specs.LineFault.{LineFault, line_fault_of, line_too_long, not_json, no_op, unknown_key, bad_field}
use Rattle.pgp_text.specs.Reply.{fault_text, reply_text}
use Rattle.pgp_text.specs.declared.reply.Reply.TheVariants.{Refused}
use Rattle.pgp_text.specs.declared.reply.line_refusal.LineRefusal.TheVariants.{Line}
use Rattle.pgp_core.specs.Answer.{asked_reply, reply_of, log_after, submitted_reply, log_with, text_of, log_after_read}
use Rattle.pgp_core.specs.Answerer.{MayAnswerBy, Replies, says_accepted}
use Rattle.pgp_core.specs.WrittenFor.{PutsReply, PutsText}
use Rattle.pgp_core.proofs.WrittenLemmas.{by-itself}

-- where no entry was taken, the log stays
stays : (log : List Entry) (command : Command) → says_accepted (reply_of log command) ≡ false → log_after log command ≡ log
stays log (Submit entry) other = go (fits log entry) other where
  go : (why : Option Refusal) → says_accepted (submitted_reply log entry why) ≡ false → log_with log entry why ≡ log
  go None other = cc
  go (Some refusal) other = refl
stays log (Ask pg) other = refl
stays log (Locate pool name) other = refl
stays log (Trace code epochs) other = refl

-- Where no answer could be put, no entry was taken: for that there was room.
pub stays-unless-put : {T E F : Type 0} (alone : Bool) (before after : List Entry) (command : Command) (reply : Reply) (put : Result T E) (fault : F)
    → Replies alone before after command reply → (says_accepted reply ≡ true → IsOk put) → OnErr (result_or put (Err fault)) (MayAnswerBy alone before after)
stays-unless-put alone before after command reply (Ok done) fault replies sure = tt
stays-unless-put alone before after command reply (Err lost) fault replies sure = elim (cases_Bool (says_accepted reply)) [
  | inl took ↦ let no : false ≡ true = sure took in cc
  | inr other ↦
      let same : after ≡ replies.by = replies.log ∙ stays replies.by command (sym (ap says_accepted replies.is) ∙ other) in
      subst (MayAnswerBy alone before) (sym same) replies.may
]

pub puts-reply : (alone : Bool) (before after : List Entry) (command : Command) (reply : Reply) (old new : List ℕ) → Replies alone before after command reply
    → new ≡ old ++ (reply_text reply ++ 10 ∷ []) → PutsReply alone before after command old new
puts-reply alone before after command reply old new replies is = record {
  by = replies.by;
  may = replies.may;
  text = is ∙ ap (λ a. old ++ (reply_text a ++ 10 ∷ [])) replies.is;
  log = replies.log;
}

-- what a shard keeps of a group, at the log's count and epoch, is what is replied
pub told-reply : (log : List Entry) (pg : PgId) (count epoch : ℕ) (told : Option View) → count ≡ length log → epoch ≡ epoch_of log
    → scratch log pg ≡ option_map (view_at (length log) (epoch_of log)) told → asked_reply pg (option_map (view_at count epoch) told) ≡ asked_reply pg (scratch log pg)
told-reply log pg count epoch told many at is = ap (asked_reply pg) (ap₂ (λ n e. option_map (view_at n e) told) many at ∙ sym is)

-- ---- lines

pub puts-command : (alone : Bool) (format : Format) (before after : List Entry) (line : List ℕ) (command : Command) (old new : List ℕ) → command_of format line ≡ Ok command
    → PutsReply alone before after command old new → PutsText alone format before after line old new
puts-command alone format before after line command old new reads puts = record {
  by = puts.by;
  may = puts.may;
  text = puts.text ∙ ap (λ c. old ++ (text_of puts.by c ++ 10 ∷ [])) (sym reads);
  log = puts.log ∙ ap (log_after_read puts.by) (sym reads);
}

puts-read : (alone : Bool) (format : Format) (log : List Entry) (line : List ℕ) (fault : LineFault) (old new : List ℕ) → command_of format line ≡ Err fault
    → new ≡ old ++ (fault_text fault ++ 10 ∷ []) → PutsText alone format log log line old new
puts-read alone format log line fault old new reads puts = record {
  by = log;
  may = by-itself alone log;
  text = puts ∙ ap (λ c. old ++ (text_of log c ++ 10 ∷ [])) (sym reads);
  log = ap (log_after_read log) (sym reads);
}

-- the refusal of a line that has this fault
pub puts-fault : (alone : Bool) (format : Format) (log : List Entry) (line : List ℕ) (fault : TextFault) (old new : List ℕ) → IfSome (line_fault_of fault) (λ f. command_of format line ≡ Err f)
    → fault ≢ Memory → new ≡ old ++ (reply_text (Refused (Line fault)) ++ 10 ∷ []) → PutsText alone format log log line old new
puts-fault alone format log line LineTooLong old new reads other puts = puts-read alone format log line line_too_long old new reads puts
puts-fault alone format log line NotJson old new reads other puts = puts-read alone format log line not_json old new reads puts
puts-fault alone format log line NoOp old new reads other puts = puts-read alone format log line no_op old new reads puts
puts-fault alone format log line (UnknownKey key) old new reads other puts = puts-read alone format log line (unknown_key (string_bytes key)) old new reads puts
puts-fault alone format log line (BadField key) old new reads other puts = puts-read alone format log line (bad_field (string_bytes key)) old new reads puts
puts-fault alone format log line Memory old new reads other puts = absurd (other refl)
