use Rattle.pgp_compact.proofs.Common.{arith, nat_tests}
use Rattle.pgp_compact.proofs.later.Later.needs_report.Goals as goal

pub returns-then-is_counted : goal.returns-then-is_counted
returns-then-is_counted c = λ log later g kept present.
    grind (arith, nat_tests, c.is_counted.ensures g present, c.has_last_number.ensures log later kept)
