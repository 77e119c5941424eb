-- What a read appends.
use Rattle.std.specs.Prelude.{◌≡◌, List, ◌++◌, map}
use Rattle.std.specs.Arc.{arc_value}
use Rattle.std.specs.declared.sync.Arc.{Arc}

-- these entries were put behind what was there
pub record Appends {A Z : Type 0} (before after : List (Arc A Z)) (entries : List A) : Type 0 where
  pub more : List (Arc A Z)
  pub whole : after ≡ before ++ more
  pub read : map arc_value more ≡ entries
