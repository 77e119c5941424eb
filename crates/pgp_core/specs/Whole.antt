-- A script that is read whole, before anything is done with it.
use Rattle.std.specs.Prelude.{ℕ, List, Option}
use Rattle.std.specs.Io.KnownBytes.{Consumes, IsAtEnd}
use Rattle.pgp_core.specs.Script.{IsBeyond, Within}
use Rattle.pgp_core.specs.declared.input.Bounds.{Bounds}

-- The reader gave these bytes and is at its end, and they are within the bounds.
pub record IsWholeScript (bounds : Bounds) (script : List ℕ) (from to : Option (List ℕ)) : Type 0 where
  pub consumed : Consumes from to script
  pub ended : IsAtEnd to
  pub within : Within bounds script

-- The reader gave more than the bounds allow.
pub record GivesTooMuch (bounds : Bounds) (from to : Option (List ℕ)) : Type 0 where
  pub script : List ℕ
  pub consumed : Consumes from to script
  pub beyond : IsBeyond bounds script
