use Rattle.std.proofs.Common.{◌≡◌, take}
use Rattle.pgp_whole.proofs.choice.copies.Given as goal

abbrev pub invariant-loop-set : goal.invariant-loop-set
invariant-loop-set l = l.copies.items ≡ take l.set-index l.sets
