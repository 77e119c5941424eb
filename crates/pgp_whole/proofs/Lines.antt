-- Lines of bytes: none of a script's has a line feed, and lines that are written with a line feed each are read as they are.
use Rattle.std.proofs.Common.{◌≡◌, ℕ, ◌+◌, ◌<◌, List, [], ◌∷◌, ◌++◌, Bool, true, false, drop, get_or, length, map, if◌then◌else◌, refl, sym, ap, ◌∙◌, append_assoc, inl, inr, arith}
use Rattle.std.proofs.lemmas.List.{get_or-map, get_or_default, length-map}
use Rattle.std.specs.List.{list_any}
use Rattle.std.proofs.lemmas.Bool.{cases_Bool}
use Rattle.pgp_core.specs.Lines.{cut, is_line_feed, last_line, lines_of, onto_first}
use Rattle.pgp_core.proofs.CutLemmas.{lines-first}
use Rattle.pgp_compact.specs.Needed.{chosen}
use Rattle.pgp_compact.proofs.NeededLemmas.{chosen-next, one_if}
use Rattle.pgp_whole.specs.Remaining.{text_of_lines}

-- no byte of the line is a line feed
abbrev pub IsOneLine : List ℕ → Type 0
IsOneLine line = list_any is_line_feed line ≡ false

abbrev pub AreOneLine : List (List ℕ) → Type 0
AreOneLine [] = Unit {0}
AreOneLine (line ∷ lines) = IsOneLine line × AreOneLine lines

-- ---- written lines

pub lines-written : (lines : List (List ℕ)) → AreOneLine lines → lines_of (text_of_lines lines) ≡ lines
lines-written [] each = refl
lines-written (line ∷ lines) each =
    ap lines_of (append_assoc line (10 ∷ []) (text_of_lines lines))
    ∙ lines-first line (text_of_lines lines) each.0
    ∙ ap (λ l. line ∷ l) (lines-written lines each.1)

-- ---- the lines of a script

one-append : (xs ys : List (List ℕ)) → AreOneLine xs → AreOneLine ys → AreOneLine (xs ++ ys)
one-append [] ys one two = two
one-append (x ∷ xs) ys one two = (one.0, one-append xs ys one.1 two)

one-first : (byte : ℕ) (lines : List (List ℕ)) (rest : List ℕ) → is_line_feed byte ≡ false → AreOneLine lines → IsOneLine rest
    → AreOneLine (onto_first byte lines rest).whole × IsOneLine (onto_first byte lines rest).rest
one-first byte [] rest other each last = (tt, rw other last)
one-first byte (line ∷ lines) rest other each last = ((rw other each.0, each.1), last)

one-cut : (bytes : List ℕ) → AreOneLine (cut bytes).whole × IsOneLine (cut bytes).rest
one-cut [] = (tt, refl)
one-cut (byte ∷ bytes) =
    let before = one-cut bytes in
    elim (cases_Bool (is_line_feed byte)) [
      | inl feed ↦ rw feed ((refl, before.0), before.1)
      | inr other ↦ rw other (one-first byte (cut bytes).whole (cut bytes).rest other before.0 before.1)
    ]

one-last : (rest : List ℕ) → IsOneLine rest → AreOneLine (last_line rest)
one-last [] one = tt
one-last (byte ∷ rest) one = (one, tt)

pub lines-one : (bytes : List ℕ) → AreOneLine (lines_of bytes)
lines-one bytes = let parts = one-cut bytes in one-append (cut bytes).whole (last_line (cut bytes).rest) parts.0 (one-last (cut bytes).rest parts.1)

-- ---- the text of lines that are chosen

text-if : (choice : Bool) (line : List ℕ) (lines : List (List ℕ)) → text_of_lines (one_if choice line ++ lines) ≡ (if choice then line ++ 10 ∷ [] else []) ++ text_of_lines lines
text-if true line lines = refl
text-if false line lines = refl

-- after one line more
pub text-next : {X : Type 0} (f : X → List ℕ) (done all : List ℕ) (choices : List Bool) (xs : List X) (i : ℕ) (d : X) → i < length choices → i < length xs
    → done ++ text_of_lines (chosen (drop i choices) (drop i (map f xs))) ≡ all
    → (done ++ (if get_or choices i false then f (get_or xs i d) ++ 10 ∷ [] else [])) ++ text_of_lines (chosen (drop (i + 1) choices) (drop (i + 1) (map f xs))) ≡ all
text-next f done all choices xs i d some more before =
    let choice : Bool = get_or choices i false in
    let line : List ℕ = f (get_or xs i d) in
    let lines : List (List ℕ) = map f xs in
    let rest = chosen (drop (i + 1) choices) (drop (i + 1) lines) in
    let within : i < length lines = omega (arith, more, length-map xs f) in
    append_assoc done (if choice then line ++ 10 ∷ [] else []) (text_of_lines rest)
    ∙ ap (λ l. done ++ l) (sym (text-if choice line rest))
    ∙ ap (λ l. done ++ text_of_lines l)
    (chosen-next [] (chosen (drop i choices) (drop i lines)) choices lines i choice line some within (get_or_default choices i false choice some)
    (sym (get_or-map f xs i d line more)) refl)
    ∙ before
