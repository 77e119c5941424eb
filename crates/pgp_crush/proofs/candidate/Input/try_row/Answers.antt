use Rattle.std.proofs.Common.{arith}
use Rattle.std.proofs.lemmas.Grind.{common_steps}
use Rattle.std.proofs.lemmas.List.{set-get_or}
use Rattle.pgp_crush.proofs.IndepLemmas.{row_steps}
use Rattle.pgp_crush.proofs.candidate.Input.try_row.Goals as goal
use Rattle.pgp_crush.proofs.candidate.Input.try_row.Goals.{then-is_open, else-is_open}

pub loop-position-preserved : goal.loop-position-preserved
loop-position-preserved c = elim c.if-is_open.branch [
  | then-is_open w ↦ grind (arith, common_steps, row_steps)
  | else-is_open w ↦ grind (arith, common_steps, row_steps, set-get_or)
]
