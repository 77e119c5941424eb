-- The lines of a script.
use Rattle.std.specs.Prelude.{ℕ, List, [], ◌∷◌, ◌++◌, Bool, ◌||◌, nat_eq, if◌then◌else◌}
use Rattle.std.specs.List.{list_all}

-- bytes, cut at their line feeds: the lines that a line feed ends, and the bytes after the last line feed
pub record LinesAndRest : Type 0 where
  pub whole : List (List ℕ)
  pub rest : List ℕ

-- a byte before a cut goes onto the first line, or onto the rest where no line ends
abbrev pub onto_first : ℕ → List (List ℕ) → List ℕ → LinesAndRest
onto_first byte [] rest = record { whole = []; rest = byte ∷ rest }
onto_first byte (line ∷ lines) rest = record { whole = (byte ∷ line) ∷ lines; rest = rest }

abbrev pub is_line_feed : ℕ → Bool
is_line_feed byte = nat_eq byte 10

abbrev pub cut : List ℕ → LinesAndRest
cut [] = record { whole = []; rest = [] }
cut (byte ∷ bytes) =
    if is_line_feed byte then record { whole = [] ∷ (cut bytes).whole; rest = (cut bytes).rest }
    else onto_first byte (cut bytes).whole (cut bytes).rest

-- a last line with no line feed counts where it has a byte
abbrev pub last_line : List ℕ → List (List ℕ)
last_line [] = []
last_line (byte ∷ bytes) = (byte ∷ bytes) ∷ []

-- the lines of a script
abbrev pub lines_of : List ℕ → List (List ℕ)
lines_of bytes = (cut bytes).whole ++ last_line (cut bytes).rest

-- only spaces, tabs and carriage returns, or nothing
abbrev pub is_blank : List ℕ → Bool
is_blank line = list_all (λ byte. nat_eq byte 32 || (nat_eq byte 9 || nat_eq byte 13)) line
