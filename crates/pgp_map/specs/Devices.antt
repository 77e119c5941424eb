-- What a list of map incrementals, oldest first, says of a device (Ceph's developer documentation on map epochs: the map
-- of an epoch is what all incrementals up to it say). Each fact is given by the last incremental that tells of it, except
-- for two, which are greatest epochs.
use Rattle.std.specs.Prelude.{ℕ, List, Bool, false, ◌||◌, nat_eq, map, max, fold, filter, flat_map}
use Rattle.std.specs.List.{range_with_len}
use Rattle.std.specs.Option.{option_map_or}
use Rattle.pgp_ids.specs.declared.incremental.DeviceEpoch.{DeviceEpoch}
use Rattle.pgp_ids.specs.declared.incremental.Incremental.{Incremental}
use Rattle.pgp_tables.specs.declared.device.Device.{Device}
pub use Rattle.pgp_tables.specs.DeviceTable.{boots, takes_down, destroys}
use Rattle.pgp_lists.specs.Last.{last_where}

-- the last incremental that boots or destroys the device boots it
abbrev pub exists : List Incremental → ℕ → Bool
exists incs osd = option_map_or (boots osd) (last_where (λ inc. boots osd inc || destroys osd inc) incs) false

-- the last incremental that boots the device, takes it down or destroys it boots it
abbrev pub is_up : List Incremental → ℕ → Bool
is_up incs osd =
    option_map_or (boots osd) (last_where (λ inc. boots osd inc || takes_down osd inc || destroys osd inc) incs) false

-- the greatest epoch of these incrementals, 0 if there is none
abbrev pub greatest_epoch : List Incremental → ℕ
greatest_epoch incs = fold max 0 (map (λ inc. inc.epoch) incs)

-- the greatest epoch that boots the device
abbrev pub up_from : List Incremental → ℕ → ℕ
up_from incs osd = greatest_epoch (filter (boots osd) incs)

-- the greatest epoch that takes the device down
abbrev pub down_at : List Incremental → ℕ → ℕ
down_at incs osd = greatest_epoch (filter (takes_down osd) incs)

-- the epoch that is told last of the device, 0 if none is
abbrev pub last_epoch_of : List DeviceEpoch → ℕ → ℕ
last_epoch_of told osd = option_map_or (λ entry. entry.epoch) (last_where (λ entry. nat_eq entry.osd osd) told) 0

-- the epoch through which the device is last said to have been up
abbrev pub up_thru : List Incremental → ℕ → ℕ
up_thru incs osd = last_epoch_of (flat_map (λ inc. inc.up_thru) incs) osd

-- the epoch that was told when the device was last given up for lost, 0 if it never was
abbrev pub lost_at : List Incremental → ℕ → ℕ
lost_at incs osd = last_epoch_of (flat_map (λ inc. inc.lost) incs) osd

-- the weight that was given to the device last, in units of 1/0x10000; it is fully in where none was
abbrev pub weight : List Incremental → ℕ → ℕ
weight incs osd =
    option_map_or (λ entry. entry.weight)
    (last_where (λ entry. nat_eq entry.osd osd) (flat_map (λ inc. inc.weight) incs)) 0x10000

-- the weights of the devices 0 to 4095
abbrev pub weights : List Incremental → List ℕ
weights incs = map (weight incs) (range_with_len 0 4096)

-- what the incrementals say of a device
abbrev pub device : List Incremental → ℕ → Device
device incs osd =
    record {
      exists = exists incs osd;
      is_up = is_up incs osd;
      up_from = up_from incs osd;
      down_at = down_at incs osd;
      up_thru = up_thru incs osd;
      lost_at = lost_at incs osd;
    }
