use Rattle.pgp_shard.proofs.Common.{◌≡◌, map, range_with_len, opening_shard}
use Rattle.pgp_shard.proofs.world.opening_shards.Given as goal

abbrev pub invariant-loop-shard : goal.invariant-loop-shard
invariant-loop-shard l = l.all.items ≡ map (λ n. opening_shard n l.shards) (range_with_len 0 l.shard)
