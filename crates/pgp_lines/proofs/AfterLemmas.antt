-- Incrementals of versions 1 and 2: each changes the map of the epoch before its own.
use Rattle.std.proofs.Common.{◌≡◌, ℕ, ◌-◌, List, codes, false, Option, Some, None, Result, Ok, refl, arith, IfOk}
use Rattle.std.proofs.lemmas.Bool.Decides.{nat_tests}
use Rattle.serde_json.specs.Data.{Data}
use Rattle.serde_json.specs.Find.{get}
use Rattle.pgp_ids.specs.declared.entry.Entry.TheVariants.{Inc}
use Rattle.pgp_ids.specs.declared.incremental.Incremental.{Incremental}
use Rattle.pgp_lines.specs.LineFault.{LineFault}
use Rattle.pgp_lines.specs.Shapes.{unknown_key_in}
use Rattle.pgp_lines.specs.Format.{format_of, read_in, has_after}
use Rattle.pgp_lines.specs.Op.{op_keys, inc_keys}
use Rattle.pgp_lines.specs.Incremental.{with_down, with_pools, with_up, inc_of_line}
use Rattle.pgp_lines.specs.Command.{known, values_of, command_of}
use Rattle.pgp_lines.specs.declared.command.Command.{Command}
use Rattle.pgp_lines.specs.declared.command.Command.TheVariants.{Submit}
use Rattle.pgp_lines.specs.declared.command.format.Format.{Format}
use Rattle.pgp_lines.specs.declared.command.format.Format.TheVariants.{Two}
use Rattle.pgp_lines.specs.declared.command.op.Op.{Op}
use Rattle.pgp_lines.specs.declared.command.op.Op.TheVariants as op
use Rattle.pgp_lines.proofs.Keys.{absent}
use Rattle.pgp_lines.proofs.Sized.{from_ok, past}

-- it changes the map of the epoch before its own
abbrev IsNext : Incremental → Type 0
IsNext inc = inc.after ≡ inc.epoch - 1

down-next : (format : Format) (inc : Incremental) (d : Data) → IfOk (with_down format None inc d) IsNext
down-next format inc d = grind arith

pools-next : (format : Format) (inc : Incremental) (d : Data) → IsNext inc → IfOk (with_pools format inc d) IsNext
pools-next format inc d next = grind arith

up-next : (format : Option Format) (inc : Incremental) (d : Data) → IsNext inc → IfOk (with_up format inc d) IsNext
up-next format inc d next = grind arith

inc-next : (last : Format) (format : Option Format) (d : Data) → get (codes "after") d ≡ None → IfOk (inc_of_line last format d) IsNext
inc-next last format d lacks = rw lacks (search (from_ok IsNext IsNext, down-next, pools-next, up-next))

-- the same of a command, if it is an incremental
abbrev IsNextInc : Command → Type 0
IsNextInc (Submit (Inc inc)) = IsNext inc
IsNextInc _ = Unit {0}

known-next : (key : Option (List ℕ)) (read : Result Command LineFault) → (key ≡ None → IfOk read IsNextInc) → IfOk (known key read) IsNextInc
known-next (Some key) read next = tt
known-next None read next = next refl

-- the line of this operation, in a version without the key `after`
answer-next : (named : Op) (last : Format) (format : Option Format) (d : Data) → has_after (read_in last format) ≡ false
    → IfOk (known (unknown_key_in (op_keys (read_in last format) named) d) (values_of named last format d)) IsNextInc
answer-next op.Inc last format d older = rw older (search (known-next, from_ok IsNextInc IsNext, inc-next, absent inc_keys (codes "after") d refl))
answer-next _ last format d older = search (known-next, past)

older : (d : Data) → has_after (read_in Two (format_of Two d)) ≡ false
older d = grind (arith, nat_tests)

-- where lines up to version 2 are read
pub line-next : (line : List ℕ) (inc : Incremental) → command_of Two line ≡ Ok (Submit (Inc inc)) → inc.after ≡ inc.epoch - 1
line-next line inc is = grind (arith, answer-next, older)
