-- Sets of numbers, by the bits of their words.
use Rattle.std.specs.Prelude.{ℕ, ◌/◌, ◌%◌, Bool, nat_eq, get_or}
use Rattle.std.specs.Int.{bit_at}
use Rattle.pgp_map.specs.declared.number_set.NumberSet.{NumberSet}

-- the set has the number
abbrev pub has : NumberSet → ℕ → Bool
has set n = nat_eq (bit_at (get_or set.words (n / 64) 0) (n % 64)) 1
