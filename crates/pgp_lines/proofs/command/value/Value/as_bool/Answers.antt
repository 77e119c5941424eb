use Rattle.std.proofs.Common.{arith}
use Rattle.pgp_lines.proofs.command.value.Value.as_bool.Goals as goal

pub returns : goal.returns
returns c = let is = c.as_bool.ensures _ c.self.invariant in grind (arith, is)
