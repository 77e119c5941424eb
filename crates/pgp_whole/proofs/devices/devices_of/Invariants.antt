use Rattle.std.proofs.Common.{◌≡◌}
use Rattle.pgp_whole.specs.kept.Sums.{waits_in}
use Rattle.pgp_whole.proofs.SummaryDevices.{from_number}
use Rattle.pgp_whole.proofs.devices.devices_of.Given as goal

abbrev pub invariant-loop-number : goal.invariant-loop-number
invariant-loop-number l = l.devices.items ≡ from_number (waits_in l.sums) l.number
