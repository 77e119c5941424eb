-- The operations of lines: the name of each, and the keys that its line may have, in ascending byte order (this project's own format).
use Rattle.std.specs.Prelude.{ℕ, List, [], ◌∷◌, codes, if◌then◌else◌, Option, Some, None, option_and_then}
use Rattle.std.specs.Str.{bytes_eq}
use Rattle.serde_json.specs.Data.{Data}
use Rattle.serde_json.specs.Find.{as_str}
use Rattle.pgp_ids.specs.declared.entry.Entry.{Entry}
use Rattle.pgp_ids.specs.declared.entry.Entry.TheVariants as entry
use Rattle.pgp_lines.specs.Shapes.{field}
use Rattle.pgp_lines.specs.Format.{has_after}
use Rattle.pgp_lines.specs.declared.command.format.Format.{Format}
use Rattle.pgp_lines.specs.declared.command.op.Op.{Op}
use Rattle.pgp_lines.specs.declared.command.op.Op.TheVariants as op

-- the operation of this name
abbrev pub op_named : List ℕ → Option Op
op_named name =
    if bytes_eq name (codes "ask") then Some op.Ask
    else (if bytes_eq name (codes "close") then Some op.Close
    else (if bytes_eq name (codes "entries") then Some op.Entries
    else (if bytes_eq name (codes "inc") then Some op.Inc
    else (if bytes_eq name (codes "info") then Some op.Info
    else (if bytes_eq name (codes "locate") then Some op.Locate
    else (if bytes_eq name (codes "trace") then Some op.Trace else None))))))

-- its name in lines and in answers
abbrev pub op_name : Op → List ℕ
op_name op.Ask = codes "ask"
op_name op.Close = codes "close"
op_name op.Entries = codes "entries"
op_name op.Inc = codes "inc"
op_name op.Info = codes "info"
op_name op.Locate = codes "locate"
op_name op.Trace = codes "trace"

-- the operation of an entry's line
abbrev pub entry_op : Entry → Op
entry_op (entry.Inc inc) = op.Inc
entry_op (entry.Info info) = op.Info
entry_op (entry.Entries report) = op.Entries
entry_op entry.Close = op.Close

-- the operation that a line names
abbrev pub op_in : Data → Option Op
op_in d = option_and_then op_named (field (codes "op") as_str d)

-- the keys that the line of an incremental may have in each version
abbrev pub inc_keys : List (List ℕ)
inc_keys =
    codes "crush"
    ∷ codes "down"
    ∷ codes "epoch"
    ∷ codes "gone"
    ∷ codes "lost"
    ∷ codes "op"
    ∷ codes "pools"
    ∷ codes "sizes"
    ∷ codes "temp"
    ∷ codes "up"
    ∷ codes "up_thru"
    ∷ codes "v"
    ∷ codes "weight"
    ∷ []

-- the keys that its line may have, where they are read in this version
abbrev pub op_keys : Format → Op → List (List ℕ)
op_keys format op.Ask = codes "op" ∷ codes "pg" ∷ codes "v" ∷ []
op_keys format op.Close = codes "op" ∷ codes "v" ∷ []
op_keys format op.Entries = codes "from" ∷ codes "log" ∷ codes "op" ∷ codes "pg" ∷ codes "stamp" ∷ codes "v" ∷ []
op_keys format op.Inc = if has_after format then codes "after" ∷ inc_keys else inc_keys
op_keys format op.Info =
    codes "complete"
    ∷ codes "from"
    ∷ codes "history_les"
    ∷ codes "last_epoch_clean"
    ∷ codes "last_update"
    ∷ codes "les"
    ∷ codes "log_tail"
    ∷ codes "op"
    ∷ codes "pg"
    ∷ codes "stamp"
    ∷ codes "v"
    ∷ []
op_keys format op.Locate = codes "name" ∷ codes "op" ∷ codes "pool" ∷ codes "v" ∷ []
op_keys format op.Trace = codes "code" ∷ codes "epochs" ∷ codes "op" ∷ codes "v" ∷ []
