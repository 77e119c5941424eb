-- Lists in ascending order, each element once. `before` says of two elements whether the first stands before the second;
-- of two that are not the same, one does.
use Rattle.std.specs.Prelude.{◌≡◌, List, [], ◌∷◌, Bool, true, AllPairs, fold, if◌then◌else◌}

-- each element stands before all that follow
abbrev pub IsAscending : {X : Type 0} → (X → X → Bool) → List X → Type 0
IsAscending before = AllPairs (λ x y. before x y ≡ true)

-- the ascending list with this element too
abbrev pub with_item : {X : Type 0} → (X → X → Bool) → X → List X → List X
with_item before x [] = x ∷ []
with_item before x (y ∷ ys) =
    if before x y then x ∷ y ∷ ys else (if before y x then y ∷ with_item before x ys else y ∷ ys)

-- the elements in ascending order, each once
abbrev pub ascending : {X : Type 0} → (X → X → Bool) → List X → List X
ascending before [] = []
ascending before (x ∷ xs) = with_item before x (ascending before xs)

-- the ascending list with each of these too
abbrev pub with_items : {X : Type 0} → (X → X → Bool) → List X → List X → List X
with_items before items list = fold (λ list item. with_item before item list) list items
