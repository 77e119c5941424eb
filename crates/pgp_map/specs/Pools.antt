-- What a list of map incrementals, oldest first, says of pools and placement groups (Ceph's developer documentation on map
-- epochs; on pg_temp).
use Rattle.std.specs.Prelude.{ℕ, List, [], Bool, false, nat_eq, nat_lt, Option, flat_map, sum_by, option_map}
use Rattle.std.specs.Option.{option_map_or}
use Rattle.pgp_ids.specs.declared.pg_id.PgId.{PgId}
use Rattle.pgp_ids.specs.declared.pool.PoolSpec.{PoolSpec}
use Rattle.pgp_ids.specs.declared.incremental.Incremental.{Incremental}
pub use Rattle.pgp_tables.specs.PoolTable.{with_sizes}
pub use Rattle.pgp_tables.specs.TempTable.{is_same_group}
use Rattle.pgp_lists.specs.Last.{last_where}

-- the pool as it was made last, with the sizes that it was given last
abbrev pub pool : List Incremental → ℕ → Option PoolSpec
pool incs id =
    option_map (with_sizes (last_where (λ sizes. nat_eq sizes.pool id) (flat_map (λ inc. inc.sizes) incs)))
    (last_where (λ made. nat_eq made.id id) (flat_map (λ inc. inc.pools) incs))

-- how many groups the pools have that were made, in all
abbrev pub group_count : List Incremental → ℕ
group_count incs = sum_by (λ made. made.pg_num) (flat_map (λ inc. inc.pools) incs)

-- the pool is there, and has this group
abbrev pub has_group : List Incremental → PgId → Bool
has_group incs pg = option_map_or (λ made. nat_lt pg.pg made.pg_num) (pool incs pg.pool) false

-- the pg_temp list that was given last to the group; it has none where that is empty
abbrev pub temp : List Incremental → PgId → List (Option ℕ)
temp incs pg =
    option_map_or (λ given. given.osds) (last_where (λ given. is_same_group given.pg pg) (flat_map (λ inc. inc.temp) incs)) []
