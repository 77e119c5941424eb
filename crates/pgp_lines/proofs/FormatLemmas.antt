-- Lines of versions 1 and 2, where lines of version 3 are read too.
use Rattle.std.proofs.Common.{◌≡◌, ℕ, List, true, Option, Some, None, Result, option_map, option_and_then, codes, if◌then◌else◌, refl, sym, ap, ◌∙◌, arith, inl, inr}
use Rattle.std.proofs.lemmas.Bool.{cases_Bool}
use Rattle.std.proofs.lemmas.Bool.Decides.{nat_tests}
use Rattle.std.specs.Option.{ok_or}
use Rattle.serde_json.specs.Data.{Data}
use Rattle.serde_json.specs.Find.{get, as_number, as_u64}
use Rattle.pgp_lines.specs.LineFault.{LineFault, no_op, ◌>>=◌}
use Rattle.pgp_lines.specs.Shapes.{is_between, unknown_key_in}
use Rattle.pgp_lines.specs.Format.{format_numbered, format_at, format_of, read_in}
use Rattle.pgp_lines.specs.Op.{op_in, op_keys}
use Rattle.pgp_lines.specs.Command.{known, values_of, command_in, command_of, data_of}
use Rattle.pgp_lines.specs.declared.command.Command.{Command}
use Rattle.pgp_lines.specs.declared.command.format.Format.{Format}
use Rattle.pgp_lines.specs.declared.command.format.Format.TheVariants.{Two, Three}
use Rattle.pgp_lines.specs.declared.command.op.Op.{Op}
use Rattle.pgp_lines.specs.declared.command.op.Op.TheVariants as op

-- the version of a number up to this one
abbrev numbered : ℕ → Option ℕ → Option Format
numbered high o = option_map format_numbered (option_and_then (λ n. if is_between 1 high n then Some n else None) o)

wider : (o : Option ℕ) (format : Format) → numbered 2 o ≡ Some format → numbered 3 o ≡ Some format
wider None format is = absurd cc
wider (Some n) format is = elim (cases_Bool (is_between 1 2 n)) [
  | inl within ↦ let more : is_between 1 3 n ≡ true = grind (arith, nat_tests) in rw more (rw within at is)
  | inr out ↦ let no : None ≡ Some format = rw out at is in absurd cc
]

named-alike : (o : Option Data) (format : Format) → format_at Two o ≡ Some format → format_at Three o ≡ Some format
named-alike None format is = is
named-alike (Some d) format is = wider (option_and_then as_u64 (as_number d)) format is

values-alike : (named : Op) (format : Format) (d : Data) → values_of named Three (Some format) d ≡ values_of named Two (Some format) d
values-alike op.Ask format d = refl
values-alike op.Close format d = refl
values-alike op.Entries format d = refl
values-alike op.Inc format d = refl
values-alike op.Info format d = refl
values-alike op.Locate format d = refl
values-alike op.Trace format d = refl

-- the line of this operation, which names this version
abbrev answer : Format → Option Format → Op → Data → Result Command LineFault
answer last format named d = known (unknown_key_in (op_keys (read_in last format) named) d) (values_of named last format d)

command-alike : (d : Data) (format : Format) → format_of Two d ≡ Some format → command_in Three d ≡ command_in Two d
command-alike d format is = go (op_in d) where
  same : (named : Op) → answer Three (format_of Three d) named d ≡ answer Two (format_of Two d) named d
  same named =
      ap (λ f. answer Three f named d) (named-alike (get (codes "v") d) format is)
      ∙ ap (known (unknown_key_in (op_keys format named) d)) (values-alike named format d)
      ∙ ap (λ f. answer Two f named d) (sym is)

  go : (named : Option Op) → (ok_or named no_op >>= (λ o. answer Three (format_of Three d) o d)) ≡ (ok_or named no_op >>= (λ o. answer Two (format_of Two d) o d))
  go None = refl
  go (Some named) = same named

-- the line is read alike
pub line-alike : (line : List ℕ) (d : Data) (format : Format) → data_of line ≡ Some d → format_of Two d ≡ Some format → command_of Three line ≡ command_of Two line
line-alike line d format read is = rw read (command-alike d format is)
