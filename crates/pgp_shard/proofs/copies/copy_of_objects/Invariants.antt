use Rattle.pgp_shard.proofs.Common.{◌≡◌, take}
use Rattle.pgp_shard.proofs.copies.copy_of_objects.Given as goal

abbrev pub invariant-loop-missing : goal.invariant-loop-missing
invariant-loop-missing l = l.copy.items ≡ take l.missing-index l.objects
