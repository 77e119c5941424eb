use Rattle.std.proofs.Common.{◌≡◌, ◌++◌, take, flat_map}
use Rattle.pgp_whole.specs.Advice.{all_lost, one_lost}
use Rattle.pgp_whole.proofs.choice.resorts.Given as goal

abbrev pub invariant-loop-set : goal.invariant-loop-set
invariant-loop-set l = l.choices.items ≡ flat_map one_lost (take l.set-index l.sets)

abbrev pub invariant-loop-set-2 : goal.invariant-loop-set-2
invariant-loop-set-2 l = l.choices.items ≡ flat_map one_lost l.sets ++ flat_map all_lost (take l.set-index l.sets)
