use Rattle.std.proofs.Common.{rules}
use Rattle.pgp_crush.proofs.ChoiceLemmas.{shuffle_steps}
use Rattle.pgp_crush.proofs.uniform.uniform_place.Goals as goal

pub loop-exchanges-preserved : goal.loop-exchanges-preserved
loop-exchanges-preserved c = search (rules, shuffle_steps)
