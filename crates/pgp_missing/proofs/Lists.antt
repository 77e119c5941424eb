-- Filters of filters and of maps.
use Rattle.std.proofs.Common.{◌≡◌, List, [], ◌∷◌, Bool, ◌&&◌, cond, map, filter, ap, inl, inr, refl}
use Rattle.std.proofs.lemmas.Bool.{cases_Bool}

-- the elements that pass two tests
pub filter-both : {X : Type 0} (p q : X → Bool) (xs : List X) → filter q (filter p xs) ≡ filter (λ x. p x && q x) xs
filter-both p q [] = refl
filter-both p q (x ∷ xs) = elim (cases_Bool (p x)) [
  | inl passes ↦ rw passes (λ i. cond (q x) (x ∷ filter-both p q xs i) (filter-both p q xs i))
  | inr fails ↦ rw fails (filter-both p q xs)
]

-- what a map has after a filter
pub map-filter-map : {X Y Z : Type 0} (g : Y → Z) (test : Y → Bool) (f : X → Y) (xs : List X) → map g (filter test (map f xs)) ≡ map (λ x. g (f x)) (filter (λ x. test (f x)) xs)
map-filter-map g test f [] = refl
map-filter-map g test f (x ∷ xs) = elim (cases_Bool (test (f x))) [
  | inl passes ↦ rw passes (ap (λ zs. g (f x) ∷ zs) (map-filter-map g test f xs))
  | inr fails ↦ rw fails (map-filter-map g test f xs)
]
