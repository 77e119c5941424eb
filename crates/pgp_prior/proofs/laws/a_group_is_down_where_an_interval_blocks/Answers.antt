use Rattle.pgp_prior.proofs.PriorLemmas.{IsBlocking-blocked_by}
use Rattle.pgp_prior.proofs.laws.a_group_is_down_where_an_interval_blocks.Goals as goal

pub returns-clause-each_waited_for : goal.returns-clause-each_waited_for
returns-clause-each_waited_for c = IsBlocking-blocked_by
