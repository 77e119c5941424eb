-- What a line is answered, and what it adds to the log, where the log has these entries before it.
use Rattle.std.specs.Prelude.{ℕ, ◌+◌, List, [], ◌∷◌, ◌++◌, length, Option, Some, None, Result, Ok, Err}
use Rattle.pgp_code.specs.AnyCode.{enough_of, is_by_place}
use Rattle.pgp_code.specs.Pool.{code_of}
use Rattle.pgp_ids.specs.declared.ask_refusal.AskRefusal.TheVariants.{UnknownGroup}
use Rattle.pgp_ids.specs.declared.entry.Entry.{Entry}
use Rattle.pgp_ids.specs.declared.history.EpochState.{EpochState}
use Rattle.pgp_ids.specs.declared.locate_refusal.LocateRefusal.TheVariants.{UnknownPool}
use Rattle.pgp_ids.specs.declared.pg_id.PgId.{PgId}
use Rattle.pgp_ids.specs.declared.pool.PoolKind.{PoolKind}
use Rattle.pgp_ids.specs.declared.pool.PoolSpec.{PoolSpec}
use Rattle.pgp_ids.specs.declared.refusal.Refusal.{Refusal}
use Rattle.pgp_ids.specs.declared.view.View.{View}
use Rattle.pgp_interval.specs.Runs.{past_intervals, current_first}
use Rattle.pgp_map.specs.Pools.{pool}
use Rattle.pgp_sets.specs.Sets.{pool_membership}
use Rattle.pgp_group.specs.Entries.{incs_of}
use Rattle.pgp_group.specs.View.{scratch}
use Rattle.pgp_lines.specs.Command.{command_of}
use Rattle.pgp_lines.specs.LineFault.{LineFault, line_too_long}
use Rattle.pgp_lines.specs.Op.{entry_op}
use Rattle.pgp_text.specs.Reply.{reply_text, fault_text}
use Rattle.pgp_lines.specs.declared.command.Command.{Command}
use Rattle.pgp_lines.specs.declared.command.Command.TheVariants.{Submit, Ask, Locate, Trace}
use Rattle.pgp_lines.specs.declared.command.format.Format.{Format}
use Rattle.pgp_text.specs.declared.reply.Reply.{Reply}
use Rattle.pgp_text.specs.declared.reply.Reply.TheVariants.{Accepted, Asked, Located, Traced, Refused}
use Rattle.pgp_text.specs.declared.reply.line_refusal.LineRefusal.TheVariants as why
use Rattle.pgp_log.specs.Fits.{fits}
use Rattle.pgp_log.specs.Locate.{group_in_pool}
use Rattle.pgp_log.specs.Log.{epoch_of}
use Rattle.pgp_core.specs.TraceHistory.{trace_history}

-- the reply to an entry, where this is why the log doesn't take it
abbrev pub submitted_reply : List Entry → Entry → Option Refusal → Reply
submitted_reply log entry None = Accepted (entry_op entry) (length log + 1) (epoch_of (log ++ entry ∷ []))
submitted_reply log entry (Some refusal) = Refused (why.Entry refusal)

-- the reply to a question about a group, where this is what the log says of it
abbrev pub asked_reply : PgId → Option View → Reply
asked_reply pg None = Refused (why.Ask UnknownGroup)
asked_reply pg (Some view) = Asked pg view

-- the reply to the question where an object lies, where this is the pool of this number
abbrev pub located_reply : List Entry → ℕ → List ℕ → Option PoolSpec → Reply
located_reply log id name None = Refused (why.Locate UnknownPool)
located_reply log id name (Some pool) =
    let pg = group_in_pool id name pool in
    Located pg (pool_membership (incs_of log) pg pool) (epoch_of log)

-- A trace is answered by the intervals of the history that it tells, of a group of which no info is known. Without an epoch it
-- tells of none.
abbrev pub traced_reply : PoolKind → List EpochState → Reply
traced_reply kind [] = Traced 1 []
traced_reply kind (opening ∷ others) =
    let history = trace_history (code_of kind) opening others in
    Traced (current_first history) (past_intervals enough_of is_by_place [] history)

abbrev pub reply_of : List Entry → Command → Reply
reply_of log (Submit entry) = submitted_reply log entry (fits log entry)
reply_of log (Ask pg) = asked_reply pg (scratch log pg)
reply_of log (Locate id name) = located_reply log id name (pool (incs_of log) id)
reply_of log (Trace kind epochs) = traced_reply kind epochs

-- the log after the entry, where this is why it doesn't take it
abbrev pub log_with : List Entry → Entry → Option Refusal → List Entry
log_with log entry None = log ++ entry ∷ []
log_with log entry (Some refusal) = log

-- questions and traces change nothing
abbrev pub log_after : List Entry → Command → List Entry
log_after log (Submit entry) = log_with log entry (fits log entry)
log_after log (Ask pg) = log
log_after log (Locate id name) = log
log_after log (Trace kind epochs) = log

-- the text for a line that is this command, or has this fault
abbrev pub text_of : List Entry → Result Command LineFault → List ℕ
text_of log (Ok command) = reply_text (reply_of log command)
text_of log (Err fault) = fault_text fault

-- the text for a line that isn't blank and not too long, where lines up to this version are read
abbrev pub line_text : Format → List Entry → List ℕ → List ℕ
line_text format log line = text_of log (command_of format line)

-- the log after what was read
abbrev pub log_after_read : List Entry → Result Command LineFault → List Entry
log_after_read log (Ok command) = log_after log command
log_after_read log (Err fault) = log

-- the log after such a line
abbrev pub line_log : Format → List Entry → List ℕ → List Entry
line_log format log line = log_after_read log (command_of format line)

-- the text for a line that is too long
abbrev pub long_text : List ℕ
long_text = fault_text line_too_long
