use Rattle.std.proofs.Common.{◌≡◌, ◌≤◌, ◌+◌, ℕ, nat_eq, take, length}
use Rattle.std.specs.HashMap as hash
use Rattle.std.specs.HashMap.{spare}
use Rattle.pgp_lists.specs.Last.{last_where}
use Rattle.pgp_tables.specs.PoolTable.{or_made}
use Rattle.pgp_tables.proofs.pools.make_all.Given as goal

abbrev pub invariant-loop-pool : goal.invariant-loop-pool
invariant-loop-pool l = record {
  after : (q : ℕ) → hash.get nat_eq l.table q ≡ or_made (last_where (λ pool. nat_eq pool.id q) (take l.pool-index l.made)) (hash.get nat_eq l.fn.table q);
  room : length l.made ≤ spare l.table + l.pool-index;
}
