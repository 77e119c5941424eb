-- The tests that an incremental that changes this map fails, in which nothing is twice, its tree aside.
use Rattle.std.specs.Prelude.{◌≡◌, ℕ, Bool, List, false, not, nat_eq, ◌||◌, Option, Some, None, if◌then◌else◌}
use Rattle.std.specs.HashMap.{HashMap}
use Rattle.std.specs.List.{list_any}
use Rattle.pgp_ids.specs.declared.incremental.Incremental.{Incremental}
use Rattle.pgp_map.specs.declared.fault.MapFault.{MapFault}
use Rattle.pgp_map.specs.declared.fault.MapFault.TheVariants.{UnknownDevice, AlreadyUp, AlreadyDown, StillUp, UpThruBack, Ahead, BadPool, PoolKnown, BadTemp}
use Rattle.pgp_map.specs.declared.findings.Findings.{Findings}
use Rattle.pgp_tables.specs.DeviceTable.{device_at}
use Rattle.pgp_tables.specs.declared.device.Device.{Device}
use Rattle.pgp_map.specs.MapFault.{has_unknown_device, has_already_up, has_already_down, has_still_up, has_up_thru_back, has_ahead, has_bad_pool, has_pool_known, has_bad_temp}

-- the device is absent from the table, and isn't one of those that boot
abbrev pub is_unknown : {S : Type 0} → HashMap ℕ Device S → List ℕ → ℕ → Bool
is_unknown table boots osd = not ((device_at table osd).exists || list_any (nat_eq osd) boots)

-- the first of the tests that are failed
abbrev pub first_of : Findings → Option MapFault
first_of f =
    if f.unknown_device then Some UnknownDevice
    else (if f.already_up then Some AlreadyUp
    else (if f.already_down then Some AlreadyDown
    else (if f.still_up then Some StillUp
    else (if f.up_thru_back then Some UpThruBack
    else (if f.ahead then Some Ahead
    else (if f.bad_pool then Some BadPool
    else (if f.pool_known then Some PoolKnown
    else (if f.bad_temp then Some BadTemp else None))))))))

-- these are the tests that the incremental fails after those before it; that of temp depends on the pools that aren't known
pub record AreFindings (incs : List Incremental) (inc : Incremental) (f : Findings) : Type 0 where
  pub unknown_device_is : f.unknown_device ≡ has_unknown_device incs inc
  pub already_up_is : f.already_up ≡ has_already_up incs inc
  pub already_down_is : f.already_down ≡ has_already_down incs inc
  pub still_up_is : f.still_up ≡ has_still_up incs inc
  pub up_thru_back_is : f.up_thru_back ≡ has_up_thru_back incs inc
  pub ahead_is : f.ahead ≡ has_ahead inc
  pub bad_pool_is : f.bad_pool ≡ has_bad_pool incs inc
  pub pool_known_is : f.pool_known ≡ has_pool_known incs inc
  pub bad_temp_is : has_pool_known incs inc ≡ false → f.bad_temp ≡ has_bad_temp incs inc
