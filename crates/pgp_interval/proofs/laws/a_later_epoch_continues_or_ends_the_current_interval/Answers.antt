use Rattle.pgp_interval.proofs.GrownLemmas.{current_first-over}
use Rattle.pgp_interval.proofs.laws.a_later_epoch_continues_or_ends_the_current_interval.Goals as goal

pub returns-clause-opens_at : goal.returns-clause-opens_at
returns-clause-opens_at g c = λ h passed members facts differ. current_first-over h passed members facts differ
