-- What a map incremental says of devices: [device, weight] and [device, epoch].
use Rattle.std.specs.Prelude.{Option, Some}
use Rattle.serde_json.specs.Data.{Data}
use Rattle.pgp_ids.specs.declared.incremental.DeviceWeight.{DeviceWeight}
use Rattle.pgp_ids.specs.declared.incremental.DeviceEpoch.{DeviceEpoch}
use Rattle.pgp_lines.specs.Shapes.{pair_in, ◌>>=◌}
use Rattle.pgp_lines.specs.Ids.{osd_in, word_in}

-- [device, weight]
abbrev pub device_weight_in : Data → Option DeviceWeight
device_weight_in d = do
  parts ← pair_in d
  osd ← osd_in parts.0
  weight ← word_in parts.1
  Some (record { osd = osd; weight = weight })

-- [device, epoch]
abbrev pub device_epoch_in : Data → Option DeviceEpoch
device_epoch_in d = do
  parts ← pair_in d
  osd ← osd_in parts.0
  epoch ← word_in parts.1
  Some (record { osd = osd; epoch = epoch })
