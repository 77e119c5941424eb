use Rattle.std.proofs.Common.{◌≡◌, ℕ, nat_eq, take, if◌then◌else◌}
use Rattle.std.specs.List.{list_any}
use Rattle.pgp_tables.specs.DeviceTable.{device_at, has_place, after_event}
use Rattle.pgp_tables.proofs.devices.change_all.Given as goal

abbrev pub invariant-loop-osd : goal.invariant-loop-osd
invariant-loop-osd l = record {
  after : (q : ℕ) → device_at l.table q ≡ (if list_any (nat_eq q) (take l.osd-index l.osds) then after_event l.event (device_at l.fn.table q) else device_at l.fn.table q);
  kept : (q : ℕ) → has_place l.table q ≡ has_place l.fn.table q;
}
