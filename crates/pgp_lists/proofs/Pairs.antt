-- Facts on each element of a list and each later one.
use Rattle.std.proofs.Common.{suc, List, [], ◌∷◌, map, arith}
use Rattle.std.specs.List.{All, AllPairs}
use Rattle.std.proofs.lemmas.List.Elements.{All-map, All-weaker}
use Rattle.std.proofs.lemmas.List.Kept.{AllPairs-cons}

pub AllPairs-nil : {X : Type 0} (R : X → X → Type 0) → AllPairs R []
AllPairs-nil R i j d before below = absurd (omega arith)

pub AllPairs-first : {X : Type 0} (R : X → X → Type 0) (x : X) (xs : List X) → AllPairs R (x ∷ xs) → All (R x) xs
AllPairs-first R x xs pairs k d below = pairs 0 (suc k) d (omega arith) (omega arith)

pub AllPairs-rest : {X : Type 0} (R : X → X → Type 0) (x : X) (xs : List X) → AllPairs R (x ∷ xs) → AllPairs R xs
AllPairs-rest R x xs pairs i j d before below = pairs (suc i) (suc j) d (omega arith) (omega arith)

-- what holds of each element and each later one, after a map
pub AllPairs-mapped : {X Y : Type 0} (f : X → Y) (R : X → X → Type 0) (S : Y → Y → Type 0) → ((x y : X) → R x y → S (f x) (f y)) → (xs : List X) → AllPairs R xs → AllPairs S (map f xs)
AllPairs-mapped f R S each [] pairs = AllPairs-nil S
AllPairs-mapped f R S each (x ∷ xs) pairs =
    AllPairs-cons S (f x) (map f xs)
    (All-map (S (f x)) f xs (All-weaker (R x) (λ y. S (f x) (f y)) (each x) xs (AllPairs-first R x xs pairs)))
    (AllPairs-mapped f R S each xs (AllPairs-rest R x xs pairs))

pub AllPairs-weaker : {X : Type 0} (R S : X → X → Type 0) → ((x y : X) → R x y → S x y) → (xs : List X) → AllPairs R xs → AllPairs S xs
AllPairs-weaker R S each xs pairs i j d before below = each _ _ (pairs i j d before below)
