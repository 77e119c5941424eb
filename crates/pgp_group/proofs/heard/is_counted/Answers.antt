use Rattle.pgp_group.proofs.Common.{arith, nat_tests, incs}
use Rattle.pgp_group.proofs.heard.is_counted.Goals as goal

pub returns-then-is_up : goal.returns-then-is_up
returns-then-is_up c = λ g present. grind (arith, nat_tests, c.up_from.ensures (incs g) present.map_is)
