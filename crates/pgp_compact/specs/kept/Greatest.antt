-- What is kept of the numbers that were noted for keys: the greatest of each key.
use Rattle.std.specs.Prelude.{◌≡◌, ℕ, List, Bool, false, ◌&&◌, nat_le}
use Rattle.std.specs.List.{list_any}
use Rattle.std.specs.Option.{option_map_or}
use Rattle.std.specs.HashMap as hash
use Rattle.std.specs.HashMap.{HashMap}

-- this number or a greater one was noted for the key
abbrev pub reaches : {K : Type 0} → (K → K → Bool) → List (K × ℕ) → K → ℕ → Bool
reaches same noted key number = list_any (λ it. same key it.0 && nat_le number it.1) noted

-- of these that were noted the greatest number of each key is kept
abbrev pub IsGreatestOf : {K S : Type 0} → (K → K → Bool) → List (K × ℕ) → HashMap K ℕ S → Type 0
IsGreatestOf {K} same noted table =
    (key : K) (number : ℕ) → option_map_or (nat_le number) (hash.get same table key) false ≡ reaches same noted key number
