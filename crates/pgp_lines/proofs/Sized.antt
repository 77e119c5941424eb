-- What follows the steps by which a line is read; and that a trace of a line is no longer than lines can give it.
use Rattle.std.proofs.Common.{◌≡◌, ℕ, ◌≤◌, List, codes, [], ◌∷◌, Bool, if◌then◌else◌, Option, Some, None, option_and_then, Result, Ok, Err, length, refl, IfSome, IfOk, arith}
use Rattle.std.specs.Option.{ok_or}
use Rattle.std.proofs.lemmas.Bool.Decides.{nat_tests}
use Rattle.serde_json.specs.Data.{Data}
use Rattle.serde_json.specs.Find.{get}
use Rattle.pgp_ids.specs.Pool.{is_kind_by_place}
use Rattle.pgp_lines.specs.LineFault.{LineFault, no_op, bad_field, ◌>>=◌}
use Rattle.pgp_lines.specs.Shapes.{is_between, items_in, each_in, required, unknown_key_in}
use Rattle.pgp_lines.specs.Trace.{code_in, epoch_state_in, epochs_in}
use Rattle.pgp_lines.specs.Format.{format_of, read_in, judged}
use Rattle.pgp_lines.specs.Command.{values_of, known, command_in, HasFewEpochs}
use Rattle.pgp_lines.specs.Op.{op_in, op_keys}
use Rattle.pgp_lines.specs.declared.command.Command.{Command}
use Rattle.pgp_lines.specs.declared.command.format.Format.{Format}
use Rattle.pgp_lines.specs.declared.command.op.Op.{Op}
use Rattle.pgp_lines.specs.declared.command.op.Op.TheVariants as op

module _ {A B : Type 0} (Q : B → Type 0) where
  pub from_ok : (P : A → Type 0) (r : Result A LineFault) (f : A → Result B LineFault) → IfOk r P → ((x : A) → P x → IfOk (f x) Q) → IfOk (r >>= f) Q
  from_ok P (Ok x) f first next = next x first
  from_ok P (Err fault) f first next = tt

  -- a step of which no more is known
  pub past : (r : Result A LineFault) (f : A → Result B LineFault) → ((x : A) → IfOk (f x) Q) → IfOk (r >>= f) Q
  past (Ok x) f next = next x
  past (Err fault) f next = tt

length-each : {A : Type 0} (shape : Data → Option A) (ds : List Data) → IfSome (each_in shape ds) (λ xs. length xs ≡ length ds)
length-each shape [] = refl
length-each shape (d ∷ ds) = let rest = length-each shape ds in grind arith

list_sized : {A : Type 0} (low high : ℕ) (shape : Data → Option A) (items : Option (List Data))
    → IfSome (option_and_then (λ ds. if is_between low high (length ds) then each_in shape ds else None) items) (λ xs. length xs ≤ high)
list_sized low high shape None = tt
list_sized low high shape (Some ds) = let each = length-each shape ds in grind (arith, nat_tests)

epochs_sized : (nulls : Bool) (at : Option Data) → IfOk (ok_or (option_and_then (epochs_in nulls) at) (bad_field (codes "epochs"))) (λ epochs. length epochs ≤ 4096)
epochs_sized nulls None = tt
epochs_sized nulls (Some d) = let sized = list_sized 1 4096 (epoch_state_in nulls) (items_in d) in grind arith

values_ok : (named : Op) (last : Format) (format : Option Format) (d : Data) → IfOk (values_of named last format d) HasFewEpochs
values_ok op.Trace last format d =
    past HasFewEpochs (required (codes "code") (code_in (read_in last format)) d) _
    (λ code. from_ok HasFewEpochs (λ epochs. length epochs ≤ 4096) (required (codes "epochs") (epochs_in (is_kind_by_place code)) d) _ (epochs_sized (is_kind_by_place code) (get (codes "epochs") d))
    (λ epochs sized. past HasFewEpochs (judged format) _ (λ known. sized)))
values_ok _ last format d = search past

known_ok : (key : Option (List ℕ)) (read : Result Command LineFault) → IfOk read HasFewEpochs → IfOk (known key read) HasFewEpochs
known_ok (Some key) read ok = tt
known_ok None read ok = ok

-- a command of a line is in range
pub in_range : (last : Format) (d : Data) (command : Command) → command_in last d ≡ Ok command → HasFewEpochs command
in_range last d command is =
    let read : Op → Result Command LineFault = λ named. values_of named last (format_of last d) d in
    let ranged : IfOk (command_in last d) HasFewEpochs =
    past HasFewEpochs (ok_or (op_in d) no_op) _ (λ named. known_ok (unknown_key_in (op_keys (read_in last (format_of last d)) named) d) (read named) (values_ok named last (format_of last d) d)) in
    rw is at ranged
