use Rattle.std.proofs.Common.{◌≡◌, ◌++◌, take, flat_map, string_bytes}
use Rattle.pgp_whole.specs.SummaryText.{device_line}
use Rattle.pgp_whole.proofs.summary_words.put_each_device.Given as goal

abbrev pub invariant-loop-device : goal.invariant-loop-device
invariant-loop-device l = string_bytes l.text ≡ string_bytes l.initial.text ++ flat_map (device_line) (take l.device-index l.devices)
