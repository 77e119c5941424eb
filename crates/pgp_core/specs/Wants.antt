-- What a command has no memory for, where it is out of memory, and why it may have no reply.
use Rattle.std.specs.Prelude.{◌≡◌, ◌⊎◌, ◌≤◌, ℕ, List, length, Bool, true, false, None}
use Rattle.std.specs.Str.{is_utf8}
use Rattle.pgp_ids.specs.declared.entry.Entry.{Entry}
use Rattle.pgp_map.specs.Pools.{has_group}
use Rattle.pgp_group.specs.Entries.{incs_of}
use Rattle.pgp_log.specs.Fits.{fits, is_closed}
use Rattle.pgp_log.specs.Judge.{MapMayLack}
use Rattle.pgp_lines.specs.declared.command.Command.{Command}
use Rattle.pgp_lines.specs.declared.command.Command.TheVariants.{Submit, Ask, Locate, Trace}
use Rattle.pgp_core.specs.Lines.{is_blank}
use Rattle.pgp_core.specs.Script.{longest_line}
use Rattle.pgp_core.specs.declared.want.Want.{Want}
use Rattle.pgp_core.specs.declared.want.Want.TheVariants as want
use Rattle.pgp_core.specs.declared.answer.NoReply.{NoReply}
use Rattle.pgp_core.specs.declared.answer.NoReply.TheVariants.{Memory, Gone}

-- an entry where it submits one, else its line
abbrev pub want_of : Command → Want
want_of (Submit entry) = want.Entry
want_of (Ask pg) = want.Line
want_of (Locate pool name) = want.Line
want_of (Trace code epochs) = want.Line

-- The command may find no memory, where nobody else adds to the log: an entry that the log takes, or an incremental at which
-- the map of an open log may lack it; a question about a group that the map has; a trace. So any other entry and any other group
-- has its refusal, and where an object lies is always answered.
abbrev pub MayFindNone : List Entry → Command → Type 0
MayFindNone log (Submit entry) = (fits log entry ≡ None) ⊎ ((is_closed log ≡ false) × MapMayLack log entry)
MayFindNone log (Ask pg) = has_group (incs_of log) pg ≡ true
MayFindNone log (Locate pool name) = ⊥
MayFindNone log (Trace code epochs) = Unit {0}

-- The command may find no memory, where the log takes its entry and nothing is answered: only an entry may.
abbrev pub MayLackEntry : List Entry → Command → Type 0
MayLackEntry log (Submit entry) = MayFindNone log (Submit entry)
MayLackEntry log (Ask pg) = ⊥
MayLackEntry log (Locate pool name) = ⊥
MayLackEntry log (Trace code epochs) = ⊥

-- to read the line can take memory: it isn't blank and not too long, and its bytes are UTF-8
pub record TakesMemory (line : List ℕ) : Type 0 where
  pub some : is_blank line ≡ false
  pub short : length line ≤ longest_line
  pub text : is_utf8 line ≡ true

-- why the command may have no reply: there was no memory for what it takes, or nobody answers any more, which is so only
-- where others add to the log too
abbrev pub LacksReply : Bool → Command → NoReply → Type 0
LacksReply alone command (Memory want) = want ≡ want_of command
LacksReply alone command Gone = alone ≡ false
