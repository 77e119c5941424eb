-- What is kept of the map before an incremental, as groups take the one after it (this project's own choice).
use Rattle.std.specs.Prelude.{◌≡◌, ℕ, nat_lt, List, ◌++◌, map, Bool, not, ◌&&◌, is_some, Some}
use Rattle.std.specs.List.{list_any}
use Rattle.pgp_ids.specs.declared.incremental.DeviceWeight.{DeviceWeight}
use Rattle.pgp_ids.specs.declared.incremental.Incremental.{Incremental}
use Rattle.pgp_map.specs.Devices.{weight}
use Rattle.pgp_map.specs.Map.{epoch}
use Rattle.pgp_map.specs.MapFault.{then_with}
use Rattle.pgp_sets.specs.Sets.{weighed}
use Rattle.pgp_group.specs.GroupHistory.{primary_facts}
use Rattle.pgp_log.specs.Touch.{changes_no_pool, changes_placements}
use Rattle.pgp_log.specs.declared.before.DeviceFacts.{DeviceFacts}
use Rattle.pgp_log.specs.declared.before.MapBefore.{MapBefore}

-- the devices that the incremental boots, and those of whose up_thru it tells: what the map says of the others as primaries stays
abbrev pub renamed_devices : Incremental → List ℕ
renamed_devices inc = inc.up ++ map (λ told. told.osd) inc.up_thru

-- the device with what the map says of it as a primary
abbrev pub with_facts : List Incremental → ℕ → DeviceFacts
with_facts incs osd = record { osd = osd; facts = primary_facts incs (Some osd) }

-- one of these devices, which had these weights, is heavier now
abbrev pub makes_heavier : List Incremental → List DeviceWeight → Bool
makes_heavier incs before = list_any (λ old. nat_lt old.weight (weight incs old.osd)) before

-- the incremental changes placements by weights alone, and makes no device heavier
abbrev pub only_lightens : List Incremental → Incremental → Bool
only_lightens incs inc =
    not (is_some inc.crush) && changes_no_pool inc && not (makes_heavier (then_with incs inc) (map (weighed incs) inc.weight))

-- it may change where some group lies, whatever becomes of devices, otherwise than by such weights
abbrev pub moves_some : List Incremental → Incremental → Bool
moves_some incs inc = changes_placements inc && not (only_lightens incs inc)

-- what is kept is the epoch of the map that these incrementals make, what it says of those devices, and the old weight of each
-- device that the incremental weighs
pub record IsMapBefore (incs : List Incremental) (inc : Incremental) (before : MapBefore) : Type 0 where
  pub epoch_is : before.epoch ≡ epoch incs
  pub devices_are : before.devices.items ≡ map (with_facts incs) (renamed_devices inc)
  pub weights_are : before.weights.items ≡ map (weighed incs) inc.weight
