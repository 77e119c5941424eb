use Rattle.pgp_sets.specs.StatusLaws.{held_status-is}
use Rattle.pgp_sets.proofs.laws.statuses_are_those_of_the_incrementals.Goals as goal

pub returns : goal.returns
returns c = λ incs map osd first is. held_status-is incs map is osd first
