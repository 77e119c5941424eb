use Rattle.std.proofs.Common.{arith}
use Rattle.pgp_lines.proofs.Tapes.{items_got}
use Rattle.pgp_lines.proofs.command.value.Value.items.Goals as goal

pub returns : goal.returns
returns c = grind (arith, items_got _ c.items.result c.self.invariant c.items.ensures, c.in_ok-items.was)

pub returns-in_err-items : goal.returns-in_err-items
returns-in_err-items c = grind (arith, items_got _ c.items.result c.self.invariant c.items.ensures, c.in_err-items.was)

pub invariant_of-result : goal.invariant_of-result
invariant_of-result c = let found = c.in_ok-items.ensures _ c.self.invariant in (found.0, found.2)
