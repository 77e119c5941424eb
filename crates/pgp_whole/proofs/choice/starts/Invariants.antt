use Rattle.std.proofs.Common.{◌≡◌, take, map}
use Rattle.pgp_whole.specs.Advice.{all_start}
use Rattle.pgp_whole.proofs.choice.starts.Given as goal

abbrev pub invariant-loop-set : goal.invariant-loop-set
invariant-loop-set l = l.choices.items ≡ map all_start (take l.set-index l.sets)
