use Rattle.std.proofs.Common.{rules}
use Rattle.pgp_sets.specs.StatusLaws.{held_status-is}
use Rattle.pgp_sets.proofs.status_of.OsdMapStatusOf.status.Goals as goal

pub returns-then-lt-clause-value : goal.returns-then-lt-clause-value
returns-then-lt-clause-value c = λ incs is. rw (← held_status-is incs c.args.self.now is c.args.osd c.args.first) (search rules)

pub returns-else-lt-clause-value : goal.returns-else-lt-clause-value
returns-else-lt-clause-value c = λ incs is. rw (← held_status-is incs c.args.self.now is c.args.osd c.args.first) (search rules)
