use Rattle.pgp_prior.proofs.PriorLemmas.{probe-IsProbed, IsProbed-probe}
use Rattle.pgp_prior.proofs.laws.whom_a_group_has_to_hear.Goals as goal

pub returns-clause-heard : goal.returns-clause-heard
returns-clause-heard c = probe-IsProbed

pub returns-clause-each : goal.returns-clause-each
returns-clause-each c = IsProbed-probe
