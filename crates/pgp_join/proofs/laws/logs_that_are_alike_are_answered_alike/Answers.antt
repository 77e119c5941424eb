use Rattle.pgp_join.proofs.AnswerLemmas.{places-alike, views-after, views-taken}
use Rattle.pgp_join.proofs.laws.logs_that_are_alike_are_answered_alike.Goals as goal

pub returns-clause-after : goal.returns-clause-after
returns-clause-after c = views-after

pub returns-clause-taken : goal.returns-clause-taken
returns-clause-taken c = views-taken

pub returns-clause-places : goal.returns-clause-places
returns-clause-places c = places-alike
