-- The table of pools of a map.
use Rattle.std.specs.Prelude.{ℕ, List, nat_eq, Option, Some, None, option_map}
use Rattle.std.specs.HashMap as hash
use Rattle.std.specs.HashMap.{HashMap}
use Rattle.pgp_lists.specs.Last.{last_where}
use Rattle.pgp_ids.specs.declared.pool.PoolSizes.{PoolSizes}
use Rattle.pgp_ids.specs.declared.pool.PoolSpec.{PoolSpec}

-- the pool with these sizes, where there are some
abbrev pub with_sizes : Option PoolSizes → PoolSpec → PoolSpec
with_sizes None pool = pool
with_sizes (Some sizes) pool = record pool { size = sizes.size; min_size = sizes.min_size }

-- the pool that is made, or else the one that was there
abbrev pub or_made : Option PoolSpec → Option PoolSpec → Option PoolSpec
or_made None pool = pool
or_made (Some made) pool = Some made

-- the pool after some are made and some are given sizes
abbrev pub new_pool : {R : Type 0} → HashMap ℕ PoolSpec R → List PoolSpec → List PoolSizes → ℕ → Option PoolSpec
new_pool old made sizes id =
    option_map (with_sizes (last_where (λ given. nat_eq given.pool id) sizes))
    (or_made (last_where (λ pool. nat_eq pool.id id) made) (hash.get nat_eq old id))
