-- What a map keeps of the incrementals that made it.
use Rattle.std.specs.Prelude.{◌≡◌, ℕ, List, None, nat_eq, flat_map}
use Rattle.std.specs.HashMap as hash
use Rattle.pgp_ids.specs.declared.incremental.Incremental.{Incremental}
use Rattle.pgp_ids.specs.declared.pg_id.PgId.{PgId}
use Rattle.pgp_map.specs.declared.map.OsdMap.{OsdMap}
use Rattle.pgp_tables.specs.DeviceTable.{device_at}
use Rattle.pgp_map.specs.Devices.{device}
use Rattle.pgp_map.specs.Devices.{weight}
use Rattle.pgp_lists.specs.Last.{last_where}
use Rattle.pgp_map.specs.Map.{epoch, tree}
use Rattle.pgp_map.specs.Pools.{pool, temp, group_count}
use Rattle.pgp_tables.specs.TempTable.{temp_at}
use Rattle.pgp_map.specs.WeightTable.{weight_in}

-- the map says what these incrementals say, oldest first; and a pool that isn't there was given no sizes
pub record IsMapOf (incs : List Incremental) (m : OsdMap) : Type 0 where
  pub epoch_is : m.epoch ≡ epoch incs
  pub devices_are : (osd : ℕ) → device_at m.devices osd ≡ device incs osd
  pub weights_are : (osd : ℕ) → weight_in m.weights.table.items osd ≡ weight incs osd
  pub pools_are : (id : ℕ) → hash.get nat_eq m.pools id ≡ pool incs id
  pub sizes_are : (id : ℕ) → pool incs id ≡ None → last_where (λ sizes. nat_eq sizes.pool id) (flat_map (λ inc. inc.sizes) incs) ≡ None
  pub count_is : m.group_count ≡ group_count incs
  pub temps_are : (pg : PgId) → temp_at m.temps pg ≡ temp incs pg
  pub tree_is : m.tree ≡ tree incs

-- the map says this of each list of incrementals that it is of
abbrev pub Says : OsdMap → (List Incremental → Type 0) → Type 0
Says map P = (incs : List Incremental) → IsMapOf incs map → P incs
