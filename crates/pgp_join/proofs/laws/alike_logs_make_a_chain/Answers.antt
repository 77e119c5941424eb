use Rattle.pgp_join.proofs.AnswerLemmas.{chain, itself}
use Rattle.pgp_join.proofs.laws.alike_logs_make_a_chain.Goals as goal

pub returns-clause-itself : goal.returns-clause-itself
returns-clause-itself c = itself

pub returns-clause-chain : goal.returns-clause-chain
returns-clause-chain c = chain
