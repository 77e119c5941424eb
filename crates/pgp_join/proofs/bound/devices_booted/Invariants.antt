use Rattle.std.proofs.Common.{◌≡◌, ℕ, nat_eq, take}
use Rattle.std.specs.HashSet.{contains}
use Rattle.std.specs.List.{flat_map}
use Rattle.std.specs.Set.{is_member}
use Rattle.pgp_join.proofs.bound.devices_booted.Given as goal

abbrev pub invariant-loop-it : goal.invariant-loop-it
invariant-loop-it l = (q : ℕ) → contains nat_eq l.booted q ≡ is_member nat_eq (flat_map (λ placed. placed.inc.now.up) (take l.it-index l.incs)) q
