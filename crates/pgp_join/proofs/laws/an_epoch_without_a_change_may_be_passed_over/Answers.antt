use Rattle.pgp_join.proofs.PassedLemmas.{passed-over}
use Rattle.pgp_join.proofs.laws.an_epoch_without_a_change_may_be_passed_over.Goals as goal

pub returns : goal.returns
returns c = λ log a b nothing legal fit fit'. passed-over log a b nothing fit fit' legal
