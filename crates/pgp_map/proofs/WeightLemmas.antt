-- The table of weights.
use Rattle.std.proofs.Common.{◌≡◌, ℕ, List, length, get_or, replicate, arith}
use Rattle.std.proofs.lemmas.Grind.{common_steps}
use Rattle.pgp_tables.proofs.Common.{write_steps}

-- a table of full weights says what an empty one does
pub full_weights : (xs : List ℕ) (n x q : ℕ) → length xs ≡ 0 → get_or (replicate n x) q x ≡ get_or xs q x
full_weights xs n x q none = grind (arith, common_steps)

-- what one more weight changes
pub ruleset weight_steps = (write_steps, common_steps)
