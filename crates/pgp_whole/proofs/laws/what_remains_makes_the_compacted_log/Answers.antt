use Rattle.pgp_whole.proofs.Script.{remain-each, remain-lines, remain-log}
use Rattle.pgp_whole.proofs.laws.what_remains_makes_the_compacted_log.Goals as goal

pub returns-clause-lines : goal.returns-clause-lines
returns-clause-lines c = remain-lines

pub returns-clause-log : goal.returns-clause-log
returns-clause-log c = remain-log

pub returns-clause-each : goal.returns-clause-each
returns-clause-each c = remain-each
