-- What a map needs before an incremental can change it without taking memory.
use Rattle.std.specs.Prelude.{◌≡◌, ◌<◌, ◌≤◌, length, true}
use Rattle.std.specs.List.{list_any}
use Rattle.std.specs.HashMap.{spare}
use Rattle.pgp_ids.specs.declared.incremental.Incremental.{Incremental}
use Rattle.pgp_ids.specs.declared.pg_id.PgId.{PgId}
use Rattle.pgp_map.specs.declared.map.OsdMap.{OsdMap}
use Rattle.pgp_tables.specs.DeviceTable.{HasPlaces}
use Rattle.pgp_map.specs.Pools.{is_same_group}
use Rattle.pgp_tables.specs.TempTable.{has_temp}

-- the map has a place for each thing that the incremental names
pub record HasRoom (inc : Incremental) (m : OsdMap) : Type 0 where
  pub devices : HasPlaces inc m.devices
  pub weights : 0 < length inc.weight → length m.weights.table.items ≡ 4096
  pub pools : length inc.pools ≤ spare m.pools
  pub temps : (q : PgId) → list_any (λ given. is_same_group given.pg q) inc.temp ≡ true → has_temp m.temps q ≡ true
