-- What was read after a piece more, and after a line feed.
use Rattle.std.proofs.Common.{◌≡◌, ℕ, ◌+◌, ◌-◌, ◌<◌, ◌≤◌, List, [], ◌∷◌, ◌++◌, false, length, sym, ap, ◌∙◌, append_assoc, arith}
use Rattle.std.specs.List.{list_any}
use Rattle.std.proofs.lemmas.List.{length-append}
use Rattle.pgp_core.specs.kept.Input.{HasRead}
use Rattle.pgp_core.specs.kept.Line.{HoldsLine}
use Rattle.pgp_core.specs.Lines.{LinesAndRest, is_line_feed, cut}
use Rattle.pgp_core.specs.declared.input.Bounds.{Bounds}
use Rattle.pgp_core.specs.declared.input.Input.{Input}
use Rattle.pgp_core.proofs.CutLemmas.{cut-piece, cut-feed}

pub whole-piece : (bytes piece : List ℕ) → list_any is_line_feed piece ≡ false → (cut (bytes ++ piece)).whole ≡ (cut bytes).whole
whole-piece bytes piece none = ap (λ (c : LinesAndRest). c.whole) (cut-piece bytes piece none)

pub read-piece : (bounds : Bounds) (old new : Input) (bytes piece : List ℕ) → list_any is_line_feed piece ≡ false → 0 < old.left.lines → length piece ≤ old.left.bytes
    → ((part : List ℕ) → HoldsLine old.line part → HoldsLine new.line (part ++ piece)) → new.left.lines ≡ old.left.lines → new.left.bytes ≡ old.left.bytes - length piece
    → HasRead bounds old bytes → HasRead bounds new (bytes ++ piece)
read-piece bounds old new bytes piece none room fits added lines left read =
    let rest : (cut (bytes ++ piece)).rest ≡ (cut bytes).rest ++ piece = ap (λ (c : LinesAndRest). c.rest) (cut-piece bytes piece none) in
    record {
      line = rw rest (added (cut bytes).rest read.line);
      lines_left = rw (whole-piece bytes piece none, lines) read.lines_left;
      bytes_left = omega (arith, read.bytes_left, left, length-append bytes piece);
      closed = λ none_left. absurd (omega (arith, none_left, lines, room));
    }

-- a piece and a line feed end the rest
cut-line : (bytes piece : List ℕ) → list_any is_line_feed piece ≡ false
    → cut (bytes ++ (piece ++ 10 ∷ [])) ≡ record { whole = (cut bytes).whole ++ ((cut bytes).rest ++ piece) ∷ []; rest = [] }
cut-line bytes piece none =
    ap cut (sym (append_assoc bytes piece (10 ∷ []))) ∙ cut-feed (bytes ++ piece)
    ∙ ap (λ (c : LinesAndRest). record { whole = c.whole ++ c.rest ∷ []; rest = [] }) (cut-piece bytes piece none)

pub whole-line : (bytes piece : List ℕ) → list_any is_line_feed piece ≡ false → (cut (bytes ++ (piece ++ 10 ∷ []))).whole ≡ (cut bytes).whole ++ ((cut bytes).rest ++ piece) ∷ []
whole-line bytes piece none = ap (λ (c : LinesAndRest). c.whole) (cut-line bytes piece none)

pub read-line : (bounds : Bounds) (old new : Input) (bytes piece : List ℕ) → list_any is_line_feed piece ≡ false → 0 < old.left.lines → length piece < old.left.bytes
    → HoldsLine new.line [] → new.left.lines ≡ old.left.lines - 1 → new.left.bytes ≡ old.left.bytes - (length piece + 1)
    → HasRead bounds old bytes → HasRead bounds new (bytes ++ (piece ++ 10 ∷ []))
read-line bounds old new bytes piece none room fits begun lines left read =
    let rest : (cut (bytes ++ (piece ++ 10 ∷ []))).rest ≡ [] = ap (λ (c : LinesAndRest). c.rest) (cut-line bytes piece none) in
    record {
      line = rw rest begun;
      lines_left = rw (whole-line bytes piece none) (omega (arith, lines, read.lines_left, room, length-append (cut bytes).whole (((cut bytes).rest ++ piece) ∷ [])));
      bytes_left = omega (arith, left, read.bytes_left, fits, length-append bytes (piece ++ 10 ∷ []), length-append piece (10 ∷ []));
      closed = λ _. rest;
    }
