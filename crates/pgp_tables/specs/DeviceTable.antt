-- The table of devices of a map.
use Rattle.std.specs.Prelude.{ℕ, Bool, true, false, not, ◌||◌, max, Option, Some, None, unwrap_or, is_some, if◌then◌else◌}
use Rattle.std.specs.HashMap as hash
use Rattle.std.specs.HashMap.{HashMap}
use Rattle.std.specs.Prelude.{nat_eq, ◌≡◌}
use Rattle.std.specs.List.{list_any}
use Rattle.pgp_lists.specs.Last.{last_where}
use Rattle.pgp_ids.specs.declared.incremental.DeviceEpoch.{DeviceEpoch}
use Rattle.pgp_ids.specs.declared.incremental.Incremental.{Incremental}
use Rattle.pgp_tables.specs.declared.device.Device.{Device}
use Rattle.pgp_tables.specs.declared.devices.Event.{Event}
use Rattle.pgp_tables.specs.declared.devices.Event.TheVariants.{Boots, GoesDown, IsDestroyed}
use Rattle.pgp_tables.specs.declared.devices.EpochKind.{EpochKind}
use Rattle.pgp_tables.specs.declared.devices.EpochKind.TheVariants.{UpThru, LostAt}

-- a device of which nothing was told
abbrev pub absent : Device
absent = record { exists = false; is_up = false; up_from = 0; down_at = 0; up_thru = 0; lost_at = 0 }

-- the device in the table; it is absent where it has no place
abbrev pub device_at : {S : Type 0} → HashMap ℕ Device S → ℕ → Device
device_at table osd = unwrap_or (hash.get nat_eq table osd) absent

-- the device has a place in the table
abbrev pub has_place : {S : Type 0} → HashMap ℕ Device S → ℕ → Bool
has_place table osd = is_some (hash.get nat_eq table osd)

abbrev pub booted : ℕ → Device → Device
booted epoch device = record device { exists = true; is_up = true; up_from = max device.up_from epoch }

abbrev pub downed : ℕ → Device → Device
downed epoch device = record device { is_up = false; down_at = max device.down_at epoch }

abbrev pub destroyed : Device → Device
destroyed device = record device { exists = false; is_up = false }

-- the device with its up_thru set, where an entry sets it
abbrev pub with_up_thru : Option DeviceEpoch → Device → Device
with_up_thru None device = device
with_up_thru (Some entry) device = record device { up_thru = entry.epoch }

-- the device with the epoch set at which it was given up for lost, where an entry sets it
abbrev pub with_lost_at : Option DeviceEpoch → Device → Device
with_lost_at None device = device
with_lost_at (Some entry) device = record device { lost_at = entry.epoch }

-- the device after the event
abbrev pub after_event : Event → Device → Device
after_event (Boots epoch) = booted epoch
after_event (GoesDown epoch) = downed epoch
after_event IsDestroyed = destroyed

-- the device with its epoch of this kind set, where an entry sets it
abbrev pub with_epoch : EpochKind → Option DeviceEpoch → Device → Device
with_epoch UpThru = with_up_thru
with_epoch LostAt = with_lost_at

abbrev pub after_down : Bool → ℕ → Device → Device
after_down is_named epoch device = if is_named then downed epoch device else device

abbrev pub after_gone : Bool → Device → Device
after_gone is_named device = if is_named then destroyed device else device

abbrev pub after_up : Bool → ℕ → Device → Device
after_up is_named epoch device = if is_named then booted epoch device else device

-- the incremental boots the device
abbrev pub boots : ℕ → Incremental → Bool
boots osd inc = list_any (nat_eq osd) inc.up

-- the incremental takes the device down
abbrev pub takes_down : ℕ → Incremental → Bool
takes_down osd inc = list_any (nat_eq osd) inc.down

-- the incremental destroys the device
abbrev pub destroys : ℕ → Incremental → Bool
destroys osd inc = list_any (nat_eq osd) inc.gone

-- the device after the incremental
abbrev pub changed : Incremental → ℕ → Device → Device
changed inc osd device =
    with_lost_at (last_where (λ entry. nat_eq entry.osd osd) inc.lost)
    (with_up_thru (last_where (λ entry. nat_eq entry.osd osd) inc.up_thru)
    (after_up (boots osd inc) inc.epoch (after_gone (destroys osd inc) (after_down (takes_down osd inc) inc.epoch device))))

-- each device that the incremental names has a place in the table, its weight aside
pub record HasPlaces {S : Type 0} (inc : Incremental) (table : HashMap ℕ Device S) : Type 0 where
  pub up : (q : ℕ) → list_any (nat_eq q) inc.up ≡ true → has_place table q ≡ true
  pub down : (q : ℕ) → list_any (nat_eq q) inc.down ≡ true → has_place table q ≡ true
  pub gone : (q : ℕ) → list_any (nat_eq q) inc.gone ≡ true → has_place table q ≡ true
  pub up_thru : (q : ℕ) → list_any (λ entry. nat_eq entry.osd q) inc.up_thru ≡ true → has_place table q ≡ true
  pub lost : (q : ℕ) → list_any (λ entry. nat_eq entry.osd q) inc.lost ≡ true → has_place table q ≡ true

-- the incremental names a device that doesn't exist, its weight aside; by a test which devices exist
abbrev pub names_absent : (ℕ → Bool) → Incremental → Bool
names_absent exists inc =
    list_any (λ osd. not (exists osd)) inc.up
    || list_any (λ osd. not (exists osd)) inc.down
    || list_any (λ osd. not (exists osd)) inc.gone
    || list_any (λ entry. not (exists entry.osd)) inc.up_thru
    || list_any (λ entry. not (exists entry.osd)) inc.lost
