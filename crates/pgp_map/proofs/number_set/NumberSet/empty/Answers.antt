use Rattle.pgp_map.proofs.NumberSetLemmas.{has-none}
use Rattle.pgp_map.proofs.number_set.NumberSet.empty.Goals as goal

pub returns : goal.returns
returns c = λ n. has-none n
