use Rattle.std.proofs.Common.{arith}
use Rattle.pgp_lines.proofs.Tapes.{begins, got}
use Rattle.pgp_lines.proofs.command.value.Value.get.Goals as goal

pub returns : goal.returns
returns c = grind (arith, got c.args.key.now _ c.get.result c.self.invariant c.get.ensures, c.in_ok-element.was)

pub returns-in_err-element : goal.returns-in_err-element
returns-in_err-element c = grind (arith, got c.args.key.now _ c.get.result c.self.invariant c.get.ensures, c.in_err-element.was)

pub invariant_of-result : goal.invariant_of-result
invariant_of-result c = let found = c.in_ok-element.ensures _ c.self.invariant in begins _ (found.0, found.2)
