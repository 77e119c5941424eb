use Rattle.std.proofs.Common.{arith}
use Rattle.pgp_tables.proofs.Common.{write_steps}
use Rattle.pgp_tables.proofs.temps.place.Goals as goal

pub returns-in_ok-insert-clause-same : goal.returns-in_ok-insert-clause-same
returns-in_ok-insert-clause-same c = λ q. grind (arith, write_steps, c.in_ok-insert.ensures.updates.0 q)

pub returns-in_ok-insert-clause-kept : goal.returns-in_ok-insert-clause-kept
returns-in_ok-insert-clause-kept c = λ q there. grind (arith, c.in_ok-insert.ensures.updates.0 q)
