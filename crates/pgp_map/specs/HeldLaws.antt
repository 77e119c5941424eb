-- The map of a list of incrementals says of a device and of a pool what the list says.
use Rattle.std.proofs.Common.{◌≡◌, ℕ, List, ap}
use Rattle.pgp_ids.specs.declared.incremental.Incremental.{Incremental}
use Rattle.pgp_map.specs.declared.map.OsdMap.{OsdMap}
use Rattle.pgp_tables.specs.declared.device.Device.{Device}
use Rattle.pgp_map.specs.Devices.{exists, is_up, lost_at}
use Rattle.pgp_map.specs.Held.{held_exists, held_up, held_lost_at, held_pool}
use Rattle.pgp_map.specs.MapOf.{IsMapOf}
use Rattle.pgp_map.specs.Pools.{pool}

pub held_exists-is : (incs : List Incremental) (map : OsdMap) → IsMapOf incs map → (osd : ℕ) → held_exists map osd ≡ exists incs osd
unfolding held_exists
held_exists-is incs map is osd = ap (λ (d : Device). d.exists) (is.devices_are osd)

pub held_up-is : (incs : List Incremental) (map : OsdMap) → IsMapOf incs map → (osd : ℕ) → held_up map osd ≡ is_up incs osd
unfolding held_up
held_up-is incs map is osd = ap (λ (d : Device). d.is_up) (is.devices_are osd)

pub held_lost_at-is : (incs : List Incremental) (map : OsdMap) → IsMapOf incs map → (osd : ℕ) → held_lost_at map osd ≡ lost_at incs osd
unfolding held_lost_at
held_lost_at-is incs map is osd = ap (λ (d : Device). d.lost_at) (is.devices_are osd)

pub held_pool-is : (incs : List Incremental) (map : OsdMap) → IsMapOf incs map → (id : ℕ) → held_pool map id ≡ pool incs id
unfolding held_pool
held_pool-is incs map is id = is.pools_are id
