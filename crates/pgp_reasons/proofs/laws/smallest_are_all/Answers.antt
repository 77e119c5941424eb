use Rattle.pgp_reasons.proofs.WholeWayLemmas.{ways-enough, ways-of_them, ways-no_part, ways-each}
use Rattle.pgp_reasons.proofs.laws.smallest_are_all.Goals as goal

pub returns-clause-enough : goal.returns-clause-enough
returns-clause-enough c = ways-enough

pub returns-clause-of_them : goal.returns-clause-of_them
returns-clause-of_them c = ways-of_them

pub returns-clause-no_part : goal.returns-clause-no_part
returns-clause-no_part c = ways-no_part

pub returns-clause-each : goal.returns-clause-each
returns-clause-each c = ways-each
