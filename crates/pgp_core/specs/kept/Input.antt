-- What was read of a script.
use Rattle.std.specs.Prelude.{◌≡◌, ℕ, ◌+◌, List, [], length}
use Rattle.pgp_core.specs.kept.Line.{HoldsLine}
use Rattle.pgp_core.specs.Lines.{cut}
use Rattle.pgp_core.specs.declared.input.Bounds.{Bounds}
use Rattle.pgp_core.specs.declared.input.Input.{Input}

-- These bytes were read, which the bounds allow, and the line after their last line feed is being read.
pub record HasRead (bounds : Bounds) (input : Input) (bytes : List ℕ) : Type 0 where
  pub line : HoldsLine input.line (cut bytes).rest
  pub lines_left : input.left.lines + length (cut bytes).whole ≡ bounds.lines
  pub bytes_left : input.left.bytes + length bytes ≡ bounds.bytes
  -- no byte stands after the last line that the bounds allow
  pub closed : input.left.lines ≡ 0 → (cut bytes).rest ≡ []
