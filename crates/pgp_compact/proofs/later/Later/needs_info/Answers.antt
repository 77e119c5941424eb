use Rattle.pgp_compact.proofs.Common.{arith, nat_tests}
use Rattle.pgp_compact.proofs.later.Later.needs_info.Goals as goal
use Rattle.pgp_compact.proofs.later.Later.needs_info.Goals.{then-may_be_heard, else-may_be_heard}

pub returns-then-tells_last_start : goal.returns-then-tells_last_start
returns-then-tells_last_start c = λ log later g kept there present stands.
    elim c.if-may_be_heard.branch [
      | then-may_be_heard w ↦ grind (arith, nat_tests, c.may_be_heard.ensures log later g kept present)
      | else-may_be_heard w ↦ grind (arith, nat_tests, c.may_be_heard.ensures log later g kept present, w.tells_last_start.ensures log later g kept)
    ]

pub returns-else-tells_last_start : goal.returns-else-tells_last_start
returns-else-tells_last_start c = λ log later g kept there present stands.
    elim c.if-may_be_heard.branch [
      | then-may_be_heard w ↦ grind (arith, nat_tests, c.may_be_heard.ensures log later g kept present)
      | else-may_be_heard w ↦ grind (arith, nat_tests, c.may_be_heard.ensures log later g kept present, w.tells_last_start.ensures log later g kept, c.tells_last_clean.ensures log later g kept there)
    ]
