-- What a failed write leaves.
use Rattle.std.specs.Prelude.{◌≡◌, ℕ, List, ◌++◌, Option}
use Rattle.std.specs.Io.KnownBytes.{Appends}

-- the part of the text before `rest` went out, and no other byte
pub record WrittenPart (old new : Option (List ℕ)) (text rest : List ℕ) : Type 0 where
  pub out : List ℕ
  pub whole : out ++ rest ≡ text
  pub went : Appends old new out

-- a first part of the text went out, and no other byte
pub record FrontWent (old new : Option (List ℕ)) (text : List ℕ) : Type 0 where
  pub rest : List ℕ
  pub front : WrittenPart old new text rest
