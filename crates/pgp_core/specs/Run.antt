-- What a run did to its reader and writer, where the log is empty before it: a run of one thread alone, or one beside others
-- who add to the log too.
use Rattle.std.specs.Prelude.{ℕ, List, [], Bool}
use Rattle.pgp_ids.specs.declared.entry.Entry.{Entry}
use Rattle.pgp_lines.specs.declared.command.format.Format.{Format}
use Rattle.pgp_core.specs.Account.{Account}
use Rattle.pgp_core.specs.Telling.{RanToEnd, WasStopped}
use Rattle.pgp_core.specs.declared.fault.ScriptFault.{ScriptFault}
use Rattle.pgp_core.specs.declared.input.Bounds.{Bounds}

-- at most this many lines, and this many bytes
abbrev pub bounds_of : (lines bytes : ℕ) → Bounds
bounds_of lines bytes = record { lines = lines; bytes = bytes }

-- a million lines, and 4 GiB
abbrev pub script_bounds : Bounds
script_bounds = bounds_of 1000000 4294967296

-- The script was answered to its end, and no call failed.
pub record AllAnswered (alone : Bool) (format : Format) (bounds : Bounds) (before after : Account) : Type 0 where
  pub log : List Entry
  pub ran : RanToEnd alone format bounds [] log before after

-- this fault stopped the answering
abbrev pub Stopped : (alone : Bool) (format : Format) (bounds : Bounds) (before after : Account) → ScriptFault → Type 0
Stopped alone format bounds before after fault = WasStopped alone format bounds [] before after fault
