-- What is needed of a list whose elements stand for others.
use Rattle.std.proofs.Common.{◌≡◌, List, [], ◌∷◌, Bool, length, map, suc, refl, sym, ap, ◌∙◌, inl, inr, arith}
use Rattle.std.specs.Prelude.{count_by}
use Rattle.std.specs.List.{filter}
use Rattle.std.proofs.lemmas.List.Sums.{length-filter}
use Rattle.std.proofs.lemmas.Bool.{cases_Bool}
use Rattle.pgp_compact.specs.Needed.{are_needed, chosen, needed_of}
use Rattle.pgp_compact.proofs.NeededLemmas.{needed-length}

-- the test of elements by what they stand for
abbrev pub by : {X Y : Type 0} → (X → Y) → (List Y → Y → Bool) → List X → X → Bool
by f test later x = test (map f later) (f x)

pub needed-map : {X Y : Type 0} (f : X → Y) (test : List Y → Y → Bool) (xs : List X) → map f (needed_of (by f test) xs) ≡ needed_of test (map f xs)
needed-map f test [] = refl
needed-map f test (x ∷ xs) = elim (cases_Bool (test (map f xs) (f x))) [
  | inl needed ↦ rw needed (ap (λ l. f x ∷ l) (needed-map f test xs))
  | inr other ↦ rw other (needed-map f test xs)
]

-- those that are chosen by what they stand for
pub chosen-map : {X Y Z : Type 0} (f : X → Y) (g : X → Z) (test : List Y → Y → Bool) (xs : List X)
    → chosen (are_needed test (map f xs)) (map g xs) ≡ map g (needed_of (by f test) xs)
chosen-map f g test [] = refl
chosen-map f g test (x ∷ xs) = elim (cases_Bool (test (map f xs) (f x))) [
  | inl needed ↦ rw needed (ap (λ l. g x ∷ l) (chosen-map f g test xs))
  | inr other ↦ rw other (chosen-map f g test xs)
]

-- where none is left out, all stay
pub needed-all : {X : Type 0} (test : List X → X → Bool) (xs : List X) → length (needed_of test xs) ≡ length xs → needed_of test xs ≡ xs
needed-all test [] same = refl
needed-all {X = X} test (x ∷ xs) same = elim (cases_Bool (test xs x)) [
  | inl needed ↦
      let rest : length (needed_of test xs) ≡ length xs = omega (arith, rw needed at same) in
      rw needed (ap (λ (l : List X). x ∷ l) (needed-all test xs rest))
  | inr other ↦ absurd (omega (arith, rw other at same, needed-length test xs))
]

-- how many are chosen
filter-needed : {X : Type 0} (test : List X → X → Bool) (xs : List X) → length (filter (λ choice. choice) (are_needed test xs)) ≡ length (needed_of test xs)
filter-needed test [] = refl
filter-needed test (x ∷ xs) = elim (cases_Bool (test xs x)) [
  | inl needed ↦ rw needed (ap suc (filter-needed test xs))
  | inr other ↦ rw other (filter-needed test xs)
]

pub count-needed : {X : Type 0} (test : List X → X → Bool) (xs : List X) → count_by (λ choice. choice) (are_needed test xs) ≡ length (needed_of test xs)
count-needed test xs = sym (length-filter (λ choice. choice) (are_needed test xs)) ∙ filter-needed test xs
