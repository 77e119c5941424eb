-- When two maps say the same of all that entries and views read of them (this project's own choice).
use Rattle.std.specs.Prelude.{◌≡◌, ℕ, List, if◌then◌else◌}
use Rattle.pgp_ids.specs.declared.incremental.Incremental.{Incremental}
use Rattle.pgp_ids.specs.declared.pg_id.PgId.{PgId}
use Rattle.pgp_tables.specs.declared.device.Device.{Device}
use Rattle.pgp_map.specs.Devices.{device, weight}
use Rattle.pgp_map.specs.Map.{tree}
use Rattle.pgp_map.specs.Pools.{group_count, pool, temp}

-- what is read of a device: not when it went down, nor when it booted where it is down
abbrev pub read_of : Device → Device
read_of d = record d { up_from = if d.is_up then d.up_from else 0; down_at = 0 }

-- the maps that these make say the same of all that is read, their epochs aside
pub record SayTheSame (incs others : List Incremental) : Type 0 where
  pub devices_are : (osd : ℕ) → read_of (device others osd) ≡ read_of (device incs osd)
  pub weight_is : (osd : ℕ) → weight others osd ≡ weight incs osd
  pub pool_is : (id : ℕ) → pool others id ≡ pool incs id
  pub temp_is : (pg : PgId) → temp others pg ≡ temp incs pg
  pub tree_is : tree others ≡ tree incs
  pub count_is : group_count others ≡ group_count incs
