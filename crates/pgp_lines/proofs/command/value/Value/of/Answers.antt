use Rattle.pgp_lines.proofs.Tapes.{begins}
use Rattle.pgp_lines.proofs.command.value.Value.of.Goals as goal

pub invariant_of-result : goal.invariant_of-result
invariant_of-result c = begins _ c.root.ensures.value
