-- What a map itself says of its devices and pools. The map of a list of incrementals says what the list says (HeldLaws).
use Rattle.std.specs.Prelude.{◌≡◌, ℕ, Bool, true, false, ◌&&◌, nat_eq, nat_lt, nat_le, List, map as map_list, Option}
use Rattle.std.specs.HashMap as hash
use Rattle.std.specs.List.{range_with_len}
use Rattle.std.specs.Option.{option_map_or}
use Rattle.pgp_ids.specs.declared.pg_id.PgId.{PgId}
use Rattle.pgp_ids.specs.declared.pool.PoolSpec.{PoolSpec}
use Rattle.pgp_map.specs.declared.map.OsdMap.{OsdMap}
use Rattle.pgp_tables.specs.DeviceTable.{device_at}

-- the map has the device
unfoldable pub held_exists : OsdMap → ℕ → Bool
held_exists map osd = (device_at map.devices osd).exists

-- the device is up in the map
unfoldable pub held_up : OsdMap → ℕ → Bool
held_up map osd = (device_at map.devices osd).is_up

-- the epoch that was told when the device was last given up for lost, by the map
unfoldable pub held_lost_at : OsdMap → ℕ → ℕ
held_lost_at map osd = (device_at map.devices osd).lost_at

-- the pool that the map has under this id
unfoldable pub held_pool : OsdMap → ℕ → Option PoolSpec
held_pool map id = hash.get nat_eq map.pools id

-- the groups of the pool, where the map has it
abbrev pub held_groups : OsdMap → ℕ → List PgId
held_groups map id = map_list (λ pg. record { pool = id; pg = pg }) (range_with_len 0 (option_map_or (λ made. made.pg_num) (held_pool map id) 0))

-- the pool has this group, and its size is at most 16
abbrev pub is_group_of : PgId → PoolSpec → Bool
is_group_of pg pool = nat_lt pg.pg pool.pg_num && nat_le pool.size 16

-- the map has the group's pool, and the pool the group
abbrev pub HasGroup : OsdMap → PgId → Type 0
HasGroup map pg = option_map_or (is_group_of pg) (held_pool map pg.pool) false ≡ true
