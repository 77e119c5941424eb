use Rattle.std.proofs.Common.{◌≡◌, ℕ, true, nat_eq, take}
use Rattle.std.specs.List.{list_any}
use Rattle.pgp_tables.specs.DeviceTable.{device_at, has_place}
use Rattle.pgp_tables.proofs.devices.place_all.Given as goal

abbrev pub invariant-loop-osd : goal.invariant-loop-osd
invariant-loop-osd l = record {
  same : (q : ℕ) → device_at l.table q ≡ device_at l.fn.table q;
  placed : (q : ℕ) → list_any (nat_eq q) (take l.osd-index l.osds) ≡ true → has_place l.table q ≡ true;
  kept : (q : ℕ) → has_place l.fn.table q ≡ true → has_place l.table q ≡ true;
}
