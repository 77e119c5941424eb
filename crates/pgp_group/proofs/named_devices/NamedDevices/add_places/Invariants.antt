use Rattle.pgp_group.proofs.Common.{◌≡◌, ◌+◌, ◌≤◌, ◌||◌, ℕ, nat_eq, take, list_any, vec_len, vec_capacity, has_osd}
use Rattle.pgp_group.proofs.named_devices.NamedDevices.add_places.Given as goal

abbrev pub invariant-loop-place : goal.invariant-loop-place
invariant-loop-place l = record {
  osds : (q : ℕ) → list_any (nat_eq q) l.self.osds.items ≡ (has_osd q (take l.place-index l.place-items) || list_any (nat_eq q) l.fn.self.osds.items);
  len : vec_len l.self.osds ≤ vec_len l.fn.self.osds + l.place-index;
  capacity : vec_capacity l.self.osds ≡ vec_capacity l.fn.self.osds;
}
