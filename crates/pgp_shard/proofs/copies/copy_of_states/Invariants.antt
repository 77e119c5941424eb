use Rattle.pgp_shard.proofs.Common.{◌≡◌, take}
use Rattle.pgp_shard.proofs.copies.copy_of_states.Given as goal

abbrev pub invariant-loop-peer : goal.invariant-loop-peer
invariant-loop-peer l = l.copy.items ≡ take l.peer-index l.states
