use Rattle.std.proofs.Common.{arith}
use Rattle.pgp_lines.proofs.command.value.Value.is_null.Goals as goal

pub returns : goal.returns
returns c = let is = c.is_null.ensures _ c.self.invariant in grind (arith, is)
