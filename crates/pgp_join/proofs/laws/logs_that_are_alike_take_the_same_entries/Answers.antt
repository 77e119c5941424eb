use Rattle.pgp_join.proofs.FollowLemmas.{faults-later, fits-alike, later-alike}
use Rattle.pgp_join.proofs.laws.logs_that_are_alike_take_the_same_entries.Goals as goal

pub returns-clause-next : goal.returns-clause-next
returns-clause-next c = fits-alike

pub returns-clause-fault : goal.returns-clause-fault
returns-clause-fault c = faults-later

pub returns-clause-later : goal.returns-clause-later
returns-clause-later c = λ log other more are legal. later-alike more log other are legal
