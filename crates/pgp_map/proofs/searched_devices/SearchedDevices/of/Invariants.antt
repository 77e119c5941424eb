use Rattle.std.proofs.Common.{◌≡◌, ℕ, take, nat_eq}
use Rattle.std.specs.List.{list_any}
use Rattle.pgp_map.specs.NumberSet.{has}
use Rattle.pgp_map.proofs.searched_devices.SearchedDevices.of.Given as goal

abbrev pub invariant-loop-osd : goal.invariant-loop-osd
invariant-loop-osd l = (q : ℕ) → has l.set q ≡ list_any (nat_eq q) (take l.osd-index l.osds)
