use Rattle.std.proofs.Common.{arith, tests}
use Rattle.std.proofs.lemmas.Int.{ints}
use Rattle.pgp_lines.proofs.command.number.Number.of_numeral.Goals as goal
use Rattle.pgp_lines.proofs.command.number.Number.of_numeral.Goals.{then-negative+in-Some+else-n-lt0, then-negative+in_default, else-negative+in_default-to_u64}

pub returns : goal.returns
returns c = elim c.if-negative.branch [
  | then-negative+in-Some+else-n-lt0 w ↦ grind (arith, tests, ints)
  | then-negative+in_default w ↦ grind (arith, tests)
  | else-negative+in_default-to_u64 w ↦ grind (arith, tests)
]
