-- What the buffer of a line keeps of the line.
use Rattle.std.specs.Prelude.{◌≡◌, ℕ, ◌<◌, ◌≤◌, List, nat_lt, length}
use Rattle.pgp_core.specs.Lines.{is_blank}
use Rattle.pgp_core.specs.Script.{longest_line}
use Rattle.pgp_core.specs.declared.line.Fate.{Fate}
use Rattle.pgp_core.specs.declared.line.Fate.TheVariants.{Kept, TooLong, NoMemory}
use Rattle.pgp_core.specs.declared.line.LineBuffer.{LineBuffer}

-- what is kept of a line, by its fate
abbrev pub KeptBy : Fate → List ℕ → List ℕ → Type 0
KeptBy Kept bytes line = (bytes ≡ line) × (length line ≤ longest_line)
KeptBy TooLong bytes line = longest_line < length line
KeptBy (NoMemory few) bytes line = (length line ≡ few) × (few ≤ longest_line)

-- the buffer is that of this line
pub record HoldsLine (buffer : LineBuffer) (line : List ℕ) : Type 0 where
  pub kept : KeptBy buffer.fate buffer.bytes.items line
  pub started : buffer.started ≡ nat_lt 0 (length line)
  pub blank : buffer.blank ≡ is_blank line
