-- The command that a line is, in this project's own format over JSON (RFC 8259).
use Rattle.std.specs.Prelude.{◌≤◌, ℕ, List, length, codes, if◌then◌else◌, Option, Some, None, Result, Ok, Err}
use Rattle.std.specs.Option.{ok_or}
use Rattle.std.specs.Str.{is_utf8}
use Rattle.serde_json.specs.Data.{Data}
use Rattle.serde_json.specs.Read.{read}
use Rattle.pgp_ids.specs.Pool.{is_kind_by_place}
use Rattle.pgp_ids.specs.declared.entry.Entry.TheVariants.{Inc, Info, Entries, Close}
use Rattle.pgp_lines.specs.LineFault.{LineFault, not_json, no_op, unknown_key, ◌>>=◌}
use Rattle.pgp_lines.specs.Op.{op_in, op_keys}
use Rattle.pgp_lines.specs.Shapes.{unknown_key_in, required}
use Rattle.pgp_lines.specs.Format.{format_of, read_in, judged}
use Rattle.pgp_lines.specs.Incremental.{inc_of_line}
use Rattle.pgp_lines.specs.Reports.{info_of_line, entries_of_line, ask_of_line, locate_of_line}
use Rattle.pgp_lines.specs.Trace.{code_in, epochs_in}
use Rattle.pgp_lines.specs.declared.command.Command.{Command}
use Rattle.pgp_lines.specs.declared.command.Command.TheVariants.{Submit, Ask, Locate, Trace}
use Rattle.pgp_lines.specs.declared.command.format.Format.{Format}
use Rattle.pgp_lines.specs.declared.command.op.Op.{Op}
use Rattle.pgp_lines.specs.declared.command.op.Op.TheVariants as op

-- the line of a trace, which names this version: its keys are judged in ascending byte order, so the least bad one is named
abbrev pub trace_of_line : Format → Option Format → Data → Result Command LineFault
trace_of_line last format d = do
  code ← required (codes "code") (code_in (read_in last format)) d
  epochs ← required (codes "epochs") (epochs_in (is_kind_by_place code)) d
  known ← judged format
  Ok (Trace code epochs)

-- the line of this operation, past the judgement of its keys; `format` is the version that it names, None where its `v` is bad
abbrev pub values_of : Op → Format → Option Format → Data → Result Command LineFault
values_of op.Ask last format d = do
  pg ← ask_of_line format d
  Ok (Ask pg)
values_of op.Close last format d = do
  known ← judged format
  Ok (Submit Close)
values_of op.Entries last format d = do
  report ← entries_of_line format d
  Ok (Submit (Entries report))
values_of op.Inc last format d = do
  inc ← inc_of_line last format d
  Ok (Submit (Inc inc))
values_of op.Info last format d = do
  info ← info_of_line format d
  Ok (Submit (Info info))
values_of op.Locate last format d = do
  object ← locate_of_line format d
  Ok (Locate object.0 object.1)
values_of op.Trace last format d = trace_of_line last format d

-- an unknown key is told before a bad value
abbrev pub known : {A : Type 0} → Option (List ℕ) → Result A LineFault → Result A LineFault
known (Some key) read = Err (unknown_key key)
known None read = read

-- the command that a value is: an object whose `op` names an operation
abbrev pub command_in : Format → Data → Result Command LineFault
command_in last d = do
  named ← ok_or (op_in d) no_op
  known (unknown_key_in (op_keys (read_in last (format_of last d)) named) d) (values_of named last (format_of last d) d)

-- the value of a text, where the bytes are one
abbrev pub data_of : List ℕ → Option Data
data_of bytes = if is_utf8 bytes then read bytes else None

-- the command that a line is, by its bytes without the line feed, where lines up to this version are read
abbrev pub command_of : Format → List ℕ → Result Command LineFault
command_of last bytes = do
  d ← ok_or (data_of bytes) not_json
  command_in last d

-- the epochs of a trace are at most 4,096
abbrev pub HasFewEpochs : Command → Type 0
HasFewEpochs (Trace code epochs) = length epochs ≤ 4096
HasFewEpochs _ = Unit {0}
