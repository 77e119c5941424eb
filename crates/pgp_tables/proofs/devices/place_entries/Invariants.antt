use Rattle.std.proofs.Common.{◌≡◌, ℕ, true, nat_eq, take}
use Rattle.std.specs.List.{list_any}
use Rattle.pgp_tables.specs.DeviceTable.{device_at, has_place}
use Rattle.pgp_tables.proofs.devices.place_entries.Given as goal

abbrev pub invariant-loop-entry : goal.invariant-loop-entry
invariant-loop-entry l = record {
  same : (q : ℕ) → device_at l.table q ≡ device_at l.fn.table q;
  placed : (q : ℕ) → list_any (λ entry. nat_eq entry.osd q) (take l.entry-index l.entries) ≡ true → has_place l.table q ≡ true;
  kept : (q : ℕ) → has_place l.fn.table q ≡ true → has_place l.table q ≡ true;
}
