use Rattle.std.proofs.Common.{◌≡◌, ℕ, nat_eq, take}
use Rattle.pgp_tables.specs.DeviceTable.{device_at, has_place, with_epoch}
use Rattle.pgp_lists.specs.Last.{last_where}
use Rattle.pgp_tables.proofs.devices.set_epochs.Given as goal

abbrev pub invariant-loop-entry : goal.invariant-loop-entry
invariant-loop-entry l = record {
  after : (q : ℕ) → device_at l.table q ≡ with_epoch l.kind (last_where (λ entry. nat_eq entry.osd q) (take l.entry-index l.entries)) (device_at l.fn.table q);
  kept : (q : ℕ) → has_place l.table q ≡ has_place l.fn.table q;
}
