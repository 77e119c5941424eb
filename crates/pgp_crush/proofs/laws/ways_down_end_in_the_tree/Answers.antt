use Rattle.pgp_crush.proofs.ReachLemmas.{ways_stay_in}
use Rattle.pgp_crush.proofs.laws.ways_down_end_in_the_tree.Goals as goal

pub returns-clause-there : goal.returns-clause-there
returns-clause-there c = ways_stay_in
