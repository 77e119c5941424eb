use Rattle.pgp_group.proofs.ServedLemmas.{remembered, remembered-each, stays_there}
use Rattle.pgp_group.proofs.laws.reckoning.served.Goals as goal

pub returns-clause-remembered : goal.returns-clause-remembered
returns-clause-remembered c = remembered

pub returns-clause-each : goal.returns-clause-each
returns-clause-each c = remembered-each

pub returns-clause-there : goal.returns-clause-there
returns-clause-there c = stays_there
