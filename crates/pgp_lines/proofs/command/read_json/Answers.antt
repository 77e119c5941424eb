use Rattle.std.proofs.Common.{◌≡◌, ℕ, List, Bool, true, false, None, ap, sym, refl, ◌∙◌, arith}
use Rattle.std.specs.Prelude.{if◌then◌else◌}
use Rattle.std.specs.Str.{IsUtf8, is_utf8}
use Rattle.std.proofs.lemmas.Str.{IsUtf8-from_is_utf8, is_utf8-from_IsUtf8}
use Rattle.serde_json.specs.Read.{read}
use Rattle.pgp_lines.specs.Command.{data_of}
use Rattle.pgp_lines.proofs.Readable.{read-tape, read-none}
use Rattle.pgp_lines.proofs.command.read_json.Goals as goal

refused_at : (b : Bool) (bytes : List ℕ) → is_utf8 bytes ≡ b → (IsUtf8 bytes → read bytes ≡ None) → (if b then read bytes else None) ≡ None
refused_at true bytes e none = none (IsUtf8-from_is_utf8 bytes e)
refused_at false bytes e none = refl

-- bytes that are refused are no text, or the text has no value
data_of-refused : (bytes : List ℕ) → (IsUtf8 bytes → read bytes ≡ None) → data_of bytes ≡ None
data_of-refused bytes none = refused_at (is_utf8 bytes) bytes refl none

-- the value of bytes that are a text
data_of-text : (bytes text : List ℕ) → text ≡ bytes → IsUtf8 bytes → data_of bytes ≡ read text
data_of-text bytes text same is = rw (is_utf8-from_IsUtf8 bytes is) (ap read (sym same))

pub returns-in_default-clause-err : goal.returns-in_default-clause-err
returns-in_default-clause-err c = (data_of-refused c.args.line.now (λ text. absurd (c.in_default.ensures.cases.0 text)), refl)

pub returns-then-is_readable-clause-ok : goal.returns-then-is_readable-clause-ok
returns-then-is_readable-clause-ok c =
    let is = read-tape _ c.in-Ok.text.now c.in-Ok-parse.tokens refl c.in-Ok-parse.ensures.ok c.in-Ok-parse.ensures.value _ (λ j same. c.is_readable.ensures j (c.nodes.ensures.tokens ∙ same)) in
    data_of-text c.args.line.now c.in-Ok.text.now c.in-Ok.ensures.cases.0 c.in-Ok.ensures.cases.1 ∙ grind (arith, is)

pub returns-then-is_readable-clause-text : goal.returns-then-is_readable-clause-text
returns-then-is_readable-clause-text c = is_utf8-from_IsUtf8 c.args.line.now c.in-Ok.ensures.cases.1

pub returns-in-Ok-parse-clause-err : goal.returns-in-Ok-parse-clause-err
returns-in-Ok-parse-clause-err c =
    let is = read-tape _ c.in-Ok.text.now c.in-Ok-parse.tokens refl c.in-Ok-parse.ensures.ok c.in-Ok-parse.ensures.value _ (λ j same. c.is_readable.ensures j (c.nodes.ensures.tokens ∙ same)) in
    (data_of-text c.args.line.now c.in-Ok.text.now c.in-Ok.ensures.cases.0 c.in-Ok.ensures.cases.1 ∙ grind (arith, is), refl)

pub returns-in-Err-Invalid-clause-err : goal.returns-in-Err-Invalid-clause-err
returns-in-Err-Invalid-clause-err c =
    let none = read-none _ c.in-Ok.text.now refl (c.in-Err-Invalid.ensures.invalid cc) in
    (data_of-text c.args.line.now c.in-Ok.text.now c.in-Ok.ensures.cases.0 c.in-Ok.ensures.cases.1 ∙ none, refl)

pub returns-clause-memory : goal.returns-clause-memory
returns-clause-memory c = λ memory. is_utf8-from_IsUtf8 c.args.line.now c.in-Ok.ensures.cases.1
