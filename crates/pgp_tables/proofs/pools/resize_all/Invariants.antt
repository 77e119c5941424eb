use Rattle.std.proofs.Common.{◌≡◌, ℕ, nat_eq, take}
use Rattle.std.specs.Prelude.{option_map}
use Rattle.std.specs.HashMap as hash
use Rattle.pgp_lists.specs.Last.{last_where}
use Rattle.pgp_tables.specs.PoolTable.{with_sizes}
use Rattle.pgp_tables.proofs.pools.resize_all.Given as goal

abbrev pub invariant-loop-given : goal.invariant-loop-given
invariant-loop-given l = (q : ℕ) → hash.get nat_eq l.table q ≡ option_map (with_sizes (last_where (λ given. nat_eq given.pool q) (take l.given-index l.sizes))) (hash.get nat_eq l.fn.table q)
