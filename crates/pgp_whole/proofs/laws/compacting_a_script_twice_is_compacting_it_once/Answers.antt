use Rattle.pgp_whole.proofs.Script.{remain-twice}
use Rattle.pgp_whole.proofs.laws.compacting_a_script_twice_is_compacting_it_once.Goals as goal

pub returns : goal.returns
returns c = remain-twice
