use Rattle.pgp_missing.specs.Log.{log_of}
use Rattle.pgp_missing.proofs.MissingLemmas.{missing_above-by_name}
use Rattle.pgp_missing.proofs.laws.missing_objects_come_by_name.Goals as goal

pub returns : goal.returns
returns c = λ best reported v. missing_above-by_name v (log_of best reported)
