-- The last element of a list that has some property.
use Rattle.std.specs.Prelude.{List, Option, None, Bool, filter}
use Rattle.std.specs.List.{last_or}

-- the last element that passes the test
abbrev pub last_where : {X : Type 0} → (X → Bool) → List X → Option X
last_where test xs = last_or None (filter test xs)
