use Rattle.std.proofs.Common.{arith}
use Rattle.pgp_crush.proofs.TreeLemmas.{look_up_steps}
use Rattle.pgp_crush.proofs.index.find_bucket.Goals as goal

pub returns-in_err-place : goal.returns-in_err-place
returns-in_err-place c = grind (arith, look_up_steps)

pub returns : goal.returns
returns c = grind (arith, look_up_steps)
