use Rattle.std.proofs.Common.{◌≡◌, ◌++◌, map}
use Rattle.std.specs.HashMap as hash
use Rattle.std.specs.List.{flat_map}
use Rattle.pgp_map.specs.Held.{held_groups}
use Rattle.pgp_map.proofs.map.OsdMap.groups.Given as goal

abbrev pub invariant-loop-id : goal.invariant-loop-id
invariant-loop-id l =
    (l.groups.items ≡ flat_map (held_groups l.self) (map (λ id. id.now) l.yielded)) × (map (λ id. id.now) l.yielded ++ l.id-iterator ≡ hash.keys l.self.pools)
