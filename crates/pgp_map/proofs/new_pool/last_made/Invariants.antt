use Rattle.std.proofs.Common.{◌≡◌, nat_eq, take}
use Rattle.pgp_lists.specs.Last.{last_where}
use Rattle.pgp_map.proofs.new_pool.last_made.Given as goal

abbrev pub invariant-loop-pool : goal.invariant-loop-pool
invariant-loop-pool l = l.last ≡ last_where (λ pool. nat_eq pool.id l.id) (take l.pool-index l.made)
