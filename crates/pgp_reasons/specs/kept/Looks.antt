-- How many sets of devices a walk has to judge at most, and why it stops before its end.
use Rattle.std.specs.Prelude.{◌≡◌, ◌⊎◌, ℕ, zero, suc, ◌+◌, ◌<◌, List, length}
use Rattle.pgp_reasons.specs.Smallest.{most_sets}

-- how many sets a walk may judge
abbrev pub most_looks : ℕ
most_looks = 10000

-- How many it has to judge at most for the sets of a size, where `left` devices are still to be chosen from a rest of `rest`:
-- a set, and what is left of it without each of its devices; or what was chosen, and then the sets with the first of the rest and
-- those without it.
abbrev pub looks_of : ℕ → (left rest : ℕ) → ℕ
looks_of size zero rest = size + 1
looks_of size (suc left) zero = 1
looks_of size (suc left) (suc rest) = looks_of size left rest + looks_of size (suc left) rest + 1

-- the same for all sets of this many devices that are smaller than a size
abbrev pub looks_below : ℕ → (size : ℕ) → ℕ
looks_below count zero = 0
looks_below count (suc size) = looks_below count size + looks_of size size count

-- as many sets are listed as may be, and there is one more; or no more sets may be judged
abbrev pub HasStopped : ℕ → (all listed : List (List ℕ)) → Type 0
HasStopped looks all listed = (length listed ≡ most_sets) × (most_sets < length all) ⊎ (looks ≡ 0)
