-- What is kept of the devices of which a group speaks (this project's own choice).
use Rattle.std.specs.Prelude.{◌≡◌, ℕ, nat_eq}
use Rattle.std.specs.List.{list_any}
use Rattle.pgp_group.specs.GroupLog.{GroupLog}
use Rattle.pgp_group.specs.Touched.{names}
use Rattle.pgp_group.specs.declared.named_devices.NamedDevices.{NamedDevices}

-- the devices that are kept are those that stand in a past interval of the group, or sent a report of it
abbrev pub KeepsNames : GroupLog → NamedDevices → Type 0
KeepsNames g kept = (osd : ℕ) → list_any (nat_eq osd) kept.osds.items ≡ names osd g
