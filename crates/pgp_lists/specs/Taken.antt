-- Lists whose elements came one after another, each judged by those before it.
use Rattle.std.specs.Prelude.{ℕ, List, Bool, true, length, take, slice_get}
use Rattle.std.specs.List.{list_all, range_with_len}
use Rattle.std.specs.Option.{option_map_or}

-- the elements before this place take the one that stands there
abbrev pub is_taken_at : {X : Type 0} → (List X → X → Bool) → List X → ℕ → Bool
is_taken_at takes xs n = option_map_or (takes (take n xs)) (slice_get xs n) true

-- each element is taken by those before it
abbrev pub are_taken : {X : Type 0} → (List X → X → Bool) → List X → Bool
are_taken takes xs = list_all (is_taken_at takes xs) (range_with_len 0 (length xs))
