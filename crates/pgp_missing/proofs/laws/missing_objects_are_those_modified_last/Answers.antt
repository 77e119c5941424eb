use Rattle.pgp_missing.specs.Log.{log_of}
use Rattle.pgp_missing.proofs.MissingLemmas.{log_of-ascends, missing_above-last, missing-newest}
use Rattle.pgp_missing.proofs.laws.missing_objects_are_those_modified_last.Goals as goal

pub returns-clause-last : goal.returns-clause-last
returns-clause-last c = missing_above-last

pub returns-clause-newest : goal.returns-clause-newest
returns-clause-newest c = λ best reported v. missing-newest v (log_of best reported) (log_of-ascends best reported)
