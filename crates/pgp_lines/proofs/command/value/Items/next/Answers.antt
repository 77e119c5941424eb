use Rattle.std.proofs.Common.{Some, None, arith}
use Rattle.pgp_lines.proofs.Tapes.{next_got}
use Rattle.pgp_lines.proofs.command.value.Items.next.Goals as goal

pub returns-clause-more : goal.returns-clause-more
returns-clause-more c =
    let found = next_got c.self.inside.items (Some c.in_ok-element.element) c.next.new.self c.self.invariant c.in_ok-element.ensures.value in
    grind (arith, found.0)

pub returns-in_err-element-clause-end : goal.returns-in_err-element-clause-end
returns-in_err-element-clause-end c = grind (arith, next_got c.self.inside.items None c.next.new.self c.self.invariant c.in_err-element.ensures.value)

pub invariant_of-result : goal.invariant_of-result
invariant_of-result c =
    let found = next_got c.self.inside.items (Some c.in_ok-element.element) c.next.new.self c.self.invariant c.in_ok-element.ensures.value in
    found.1

pub invariant_of-self-2 : goal.invariant_of-self-2
invariant_of-self-2 c =
    let found = next_got c.self.inside.items (Some c.in_ok-element.element) c.next.new.self c.self.invariant c.in_ok-element.ensures.value in
    found.2
