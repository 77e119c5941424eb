-- The answer to a line from what its buffer holds.
use Rattle.std.proofs.Common.{◌≡◌, ℕ, ◌<◌, ◌≤◌, List, [], ◌∷◌, ◌++◌, Bool, Some, None, true, false, length, nat_lt, refl, sym, ◌∙◌, subst, append-nil, arith}
use Rattle.std.proofs.lemmas.Bool.Decides.{nat_tests}
use Rattle.std.proofs.lemmas.List.{nil_from_length}
use Rattle.pgp_ids.specs.declared.entry.Entry.{Entry}
use Rattle.std.specs.Prelude.{Ok}
use Rattle.pgp_lines.specs.Command.{command_of}
use Rattle.pgp_lines.specs.declared.command.Command.{Command}
use Rattle.pgp_lines.specs.declared.command.Command.TheVariants.{Submit, Ask, Locate, Trace}
use Rattle.pgp_lines.specs.declared.command.format.Format.{Format}
use Rattle.pgp_core.specs.Wants.{want_of, LacksReply}
use Rattle.pgp_core.specs.Answer.{line_text}
use Rattle.pgp_core.specs.Lines.{is_blank}
use Rattle.pgp_core.specs.Script.{longest_line, MayMeet}
use Rattle.pgp_core.specs.kept.Line.{KeptBy, HoldsLine}
use Rattle.pgp_core.specs.WrittenFor.{PutsText, PutsLine, MayLack}
use Rattle.pgp_core.specs.declared.line.Fate.TheVariants.{TooLong, NoMemory}
use Rattle.pgp_core.specs.declared.line.LineBuffer.{LineBuffer}
use Rattle.pgp_core.specs.declared.answer.NoReply.{NoReply}
use Rattle.pgp_core.specs.declared.answer.NoReply.TheVariants as why
use Rattle.pgp_core.proofs.WrittenLemmas.{by-itself}

pub puts-blank : (alone : Bool) (format : Format) (log : List Entry) (text line : List ℕ) → is_blank line ≡ true → PutsLine alone format log log line text text []
puts-blank alone format log text line is = record {
  text = [];
  told = record { by = log; may = by-itself alone log; met = None; meets = tt; text_is = rw is refl; log_is = rw is refl };
  whole = refl;
}

pub puts-text : (alone : Bool) (format : Format) (before after : List Entry) (line old new : List ℕ) → is_blank line ≡ false → PutsText alone format before after line old new
    → length line ≤ longest_line → PutsLine alone format before after line old new []
puts-text alone format before after line old new blank puts few =
    let short : nat_lt longest_line (length line) ≡ false = grind (arith, nat_tests) in
    record {
      text = line_text format puts.by line ++ 10 ∷ [];
      told = record { by = puts.by; may = puts.may; met = None; meets = tt; text_is = rw (blank, short) refl; log_is = rw (blank, short) puts.log };
      whole = append-nil new ∙ puts.text;
    }

-- a line that was too long for its buffer
pub is-long : (buffer : LineBuffer) → buffer.fate ≡ TooLong → buffer.blank ≡ false → (line : List ℕ) → HoldsLine buffer line
    → (is_blank line ≡ false) × (longest_line < length line)
is-long buffer fate some line holds = (sym holds.blank ∙ some, subst (λ f. KeptBy f buffer.bytes.items line) fate holds.kept)

-- one that was out of memory
pub is-short : (buffer : LineBuffer) (few : ℕ) → buffer.fate ≡ NoMemory few → buffer.blank ≡ false → (line : List ℕ) → HoldsLine buffer line
    → (is_blank line ≡ false) × (length line ≤ longest_line)
is-short buffer few fate some line holds =
    let kept : (length line ≡ few) × (few ≤ longest_line) = subst (λ f. KeptBy f buffer.bytes.items line) fate holds.kept in
    (sym holds.blank ∙ some, omega (arith, kept.0, kept.1))

-- what its command can have no memory for, the line can have none for
line-meets : (format : Format) (line : List ℕ) (command : Command) → is_blank line ≡ false → length line ≤ longest_line → command_of format line ≡ Ok command → MayMeet format (Some (want_of command)) line
line-meets format line (Submit entry) some short reads = record { short = short; entry = entry; reads = reads }
line-meets format line (Ask pg) some short reads = (some, short)
line-meets format line (Locate pool name) some short reads = (some, short)
line-meets format line (Trace code epochs) some short reads = (some, short)

-- what a line lacks, from what its command lacks
pub lacks-of : (alone : Bool) (format : Format) (line : List ℕ) (command : Command) → command_of format line ≡ Ok command → (lack : NoReply) → LacksReply alone command lack
    → is_blank line ≡ false → length line ≤ longest_line → MayLack alone format lack line
lacks-of alone format line command reads (why.Memory want) is some short = rw is (line-meets format line command some short reads)
lacks-of alone format line command reads why.Gone is some short = record { shared = is; short = short; command = command; reads = reads }

-- no byte was read
pub is-empty : (line : List ℕ) → nat_lt 0 (length line) ≡ false → line ≡ []
is-empty line none = nil_from_length line (grind (arith, nat_tests))
