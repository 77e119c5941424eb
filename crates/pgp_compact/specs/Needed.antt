-- The elements of a list that are needed, where what comes later may make an earlier one needless.
use Rattle.std.specs.Prelude.{List, [], ◌∷◌, Bool, true, false, if◌then◌else◌}

-- the elements that pass the test, which is given those that come after
abbrev pub needed_of : {X : Type 0} → (List X → X → Bool) → List X → List X
needed_of test [] = []
needed_of test (x ∷ later) = if test later x then x ∷ needed_of test later else needed_of test later

-- of each element whether it is one of them
abbrev pub are_needed : {X : Type 0} → (List X → X → Bool) → List X → List Bool
are_needed test [] = []
are_needed test (x ∷ later) = test later x ∷ are_needed test later

-- the elements of which this is true
abbrev pub chosen : {X : Type 0} → List Bool → List X → List X
chosen [] xs = []
chosen (choice ∷ choices) [] = []
chosen (true ∷ choices) (x ∷ xs) = x ∷ chosen choices xs
chosen (false ∷ choices) (x ∷ xs) = chosen choices xs
