-- What a map incremental says of devices, as C gives it. This project's own choice.
use Rattle.std.specs.Prelude.{ℕ, Option, Some, None, option_map, nat_le, if◌then◌else◌}
use Rattle.pgp_ids.specs.declared.incremental.DeviceEpoch.{DeviceEpoch}
use Rattle.pgp_ids.specs.declared.incremental.DeviceWeight.{DeviceWeight}
use Rattle.pgp_c.specs.declared.devices.PgpDeviceEpoch.{PgpDeviceEpoch}
use Rattle.pgp_c.specs.declared.devices.PgpDeviceWeight.{PgpDeviceWeight}

-- the device of this number, from 0 to 4095
abbrev pub osd_of : ℕ → Option ℕ
osd_of number = if nat_le number 4095 then Some number else None

abbrev pub device_weight_of : PgpDeviceWeight → Option DeviceWeight
device_weight_of given = option_map (λ osd. record { osd = osd; weight = given.weight }) (osd_of given.osd)

abbrev pub device_epoch_of : PgpDeviceEpoch → Option DeviceEpoch
device_epoch_of given = option_map (λ osd. record { osd = osd; epoch = given.epoch }) (osd_of given.osd)
