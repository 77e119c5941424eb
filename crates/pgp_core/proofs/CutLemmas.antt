-- What a piece of a line, and a line feed, do to the cut of the bytes before them.
use Rattle.std.proofs.Common.{◌≡◌, ℕ, ◌<◌, List, [], ◌∷◌, ◌++◌, Bool, true, false, cond, length, refl, sym, ap, ◌∙◌, append_assoc, append-nil, arith}
use Rattle.std.specs.List.{list_any}
use Rattle.std.proofs.lemmas.Bool.{or_parts}
use Rattle.pgp_core.specs.Lines.{LinesAndRest, onto_first, is_line_feed, cut, last_line, lines_of}

abbrev make : List (List ℕ) → List ℕ → LinesAndRest
make lines rest = record { whole = lines; rest = rest }

-- a byte before a cut, by whether it is a line feed
abbrev before : Bool → ℕ → LinesAndRest → LinesAndRest
before feed byte c = cond feed (make ([] ∷ c.whole) c.rest) (onto_first byte c.whole c.rest)

-- lines after bytes that no line feed ends: the first of them goes on with these
abbrev pub lines_after : List ℕ → List (List ℕ) → List (List ℕ)
lines_after rest [] = []
lines_after rest (line ∷ lines) = (rest ++ line) ∷ lines

-- the last bytes after these, where these lines end before them
abbrev rest_after : List ℕ → List (List ℕ) → List ℕ → List ℕ
rest_after rest [] last = rest ++ last
rest_after rest (line ∷ lines) last = last

-- one cut after the other
abbrev join : LinesAndRest → LinesAndRest → LinesAndRest
join a b = make (a.whole ++ lines_after a.rest b.whole) (rest_after a.rest b.whole b.rest)

before_join : (feed : Bool) (byte : ℕ) (lines : List (List ℕ)) (rest : List ℕ) (others : List (List ℕ)) (last : List ℕ)
    → before feed byte (join (make lines rest) (make others last)) ≡ join (before feed byte (make lines rest)) (make others last)
before_join true byte lines rest others last = refl
before_join false byte [] rest [] last = refl
before_join false byte [] rest (other ∷ others) last = refl
before_join false byte (line ∷ lines) rest others last = refl

-- bytes after a line feed begin lines of their own
join_closed : (lines others : List (List ℕ)) (last : List ℕ) → join (make lines []) (make others last) ≡ make (lines ++ others) last
join_closed lines [] last = refl
join_closed lines (other ∷ others) last = refl

cut-append : (bytes more : List ℕ) → cut (bytes ++ more) ≡ join (cut bytes) (cut more)
cut-append [] more = sym (join_closed [] (cut more).whole (cut more).rest)
cut-append (byte ∷ bytes) more =
    ap (before (is_line_feed byte) byte) (cut-append bytes more)
    ∙ before_join (is_line_feed byte) byte (cut bytes).whole (cut bytes).rest (cut more).whole (cut more).rest

-- a piece alone
cut_piece : (piece : List ℕ) → list_any is_line_feed piece ≡ false → cut piece ≡ make [] piece
cut_piece [] none = refl
cut_piece (byte ∷ piece) none =
    let parts = or_parts (is_line_feed byte) (list_any is_line_feed piece) none in
    ap (before (is_line_feed byte) byte) (cut_piece piece parts.1) ∙ rw parts.0 refl

-- a piece goes onto the rest
pub cut-piece : (bytes piece : List ℕ) → list_any is_line_feed piece ≡ false → cut (bytes ++ piece) ≡ record { whole = (cut bytes).whole; rest = (cut bytes).rest ++ piece }
cut-piece bytes piece none =
    cut-append bytes piece ∙ ap (join (cut bytes)) (cut_piece piece none) ∙ ap (λ lines. make lines ((cut bytes).rest ++ piece)) (append-nil (cut bytes).whole)

-- a line feed ends the rest
pub cut-feed : (bytes : List ℕ) → cut (bytes ++ 10 ∷ []) ≡ record { whole = (cut bytes).whole ++ (cut bytes).rest ∷ []; rest = [] }
cut-feed bytes = cut-append bytes (10 ∷ []) ∙ ap (λ line. make ((cut bytes).whole ++ line ∷ []) []) (append-nil (cut bytes).rest)

-- the lines that have ended stay the first ones
pub cut-goes : (bytes more : List ℕ) → (cut (bytes ++ more)).whole ≡ (cut bytes).whole ++ lines_after (cut bytes).rest (cut more).whole
cut-goes bytes more = ap (λ (c : LinesAndRest). c.whole) (cut-append bytes more)

pub lines-closed : (bytes more : List ℕ) → (cut bytes).rest ≡ [] → lines_of (bytes ++ more) ≡ (cut bytes).whole ++ lines_of more
lines-closed bytes more closed =
    let joined = ap (λ (rest : List ℕ). join (make (cut bytes).whole rest) (cut more)) closed ∙ join_closed (cut bytes).whole (cut more).whole (cut more).rest in
    ap (λ (c : LinesAndRest). c.whole ++ last_line c.rest) (cut-append bytes more ∙ joined) ∙ append_assoc (cut bytes).whole (cut more).whole (last_line (cut more).rest)

some_before : (feed : Bool) (byte : ℕ) (lines : List (List ℕ)) (rest : List ℕ)
    → 0 < length ((before feed byte (make lines rest)).whole ++ last_line (before feed byte (make lines rest)).rest)
some_before true byte lines rest = omega arith
some_before false byte [] rest = omega arith
some_before false byte (line ∷ lines) rest = omega arith

-- bytes have a line
pub some-line : (bytes : List ℕ) → 0 < length bytes → 0 < length (lines_of bytes)
some-line [] some = absurd (omega arith)
some-line (byte ∷ bytes) some = some_before (is_line_feed byte) byte (cut bytes).whole (cut bytes).rest

-- ---- the first line

-- one that a line feed ends
pub cut-one : (line : List ℕ) → list_any is_line_feed line ≡ false → cut (line ++ 10 ∷ []) ≡ record { whole = line ∷ []; rest = [] }
cut-one line one = cut-feed line ∙ ap (λ (c : LinesAndRest). make (c.whole ++ c.rest ∷ []) []) (cut_piece line one)

pub lines-first : (line rest : List ℕ) → list_any is_line_feed line ≡ false → lines_of (line ++ 10 ∷ rest) ≡ line ∷ lines_of rest
lines-first line rest one =
    ap lines_of (sym (append_assoc line (10 ∷ []) rest))
    ∙ lines-closed (line ++ 10 ∷ []) rest (ap (λ (c : LinesAndRest). c.rest) (cut-one line one))
    ∙ ap (λ (c : LinesAndRest). c.whole ++ lines_of rest) (cut-one line one)

-- one that is the last
pub lines-last : (line : List ℕ) → list_any is_line_feed line ≡ false → 0 < length line → lines_of line ≡ line ∷ []
lines-last [] one some = absurd (omega arith)
lines-last (byte ∷ line) one some = ap (λ (c : LinesAndRest). c.whole ++ last_line c.rest) (cut_piece (byte ∷ line) one)
