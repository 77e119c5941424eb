use Rattle.pgp_missing.proofs.MissingLemmas.{kept-last, log_of-last, log_of-ascends}
use Rattle.pgp_missing.proofs.laws.log_holds_the_last_entry_of_each_number.Goals as goal

pub returns-clause-last : goal.returns-clause-last
returns-clause-last c = kept-last

pub returns-clause-within : goal.returns-clause-within
returns-clause-within c = log_of-last

pub returns-clause-ascending : goal.returns-clause-ascending
returns-clause-ascending c = log_of-ascends
