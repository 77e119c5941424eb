use Rattle.pgp_core.proofs.AddedLemmas.{answered-legal, written-legal}
use Rattle.pgp_core.proofs.laws.entries.lines_are_answered_by_legal_logs.Goals as goal

pub returns-clause-by : goal.returns-clause-by
returns-clause-by c = answered-legal

pub returns-clause-after : goal.returns-clause-after
returns-clause-after c = written-legal
