-- Lists in the order of a key, with one element of each.
use Rattle.std.specs.Prelude.{◌≡◌, ◌≢◌, List, [], ◌∷◌, ◌++◌, fold, Contains}
use Rattle.std.specs.Ordering.{match_ordering}
use Rattle.std.specs.declared.cmp.Ordering.{Ordering}

-- a list in the order of its keys with one more element, which goes to its place and replaces the one of its key
abbrev pub put_in : {X K : Type 0} → (X → K) → (K → K → Ordering) → List X → X → List X
put_in key cmp [] new = new ∷ []
put_in key cmp (x ∷ xs) new =
    match_ordering (cmp (key new) (key x)) (new ∷ x ∷ xs) (new ∷ xs) (x ∷ put_in key cmp xs new)

-- of each key the last element with it, in the order of the keys
abbrev pub last_of_each : {X K : Type 0} → (X → K) → (K → K → Ordering) → List X → List X
last_of_each key cmp xs = fold (put_in key cmp) [] xs

-- the element stands in the list, and none after it has its key
pub record IsLast {X K : Type 0} (key : X → K) (xs : List X) (x : X) : Type 0 where
  pub before : List X
  pub after : List X
  pub split : xs ≡ before ++ x ∷ after
  pub last : (other : X) → Contains after other → key other ≢ key x
