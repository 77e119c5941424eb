use Rattle.std.proofs.Common.{◌≡◌, ◌++◌, map}
use Rattle.std.specs.List.{range_with_len}
use Rattle.pgp_map.proofs.map.OsdMap.put_groups.Given as goal

abbrev pub invariant-loop-pg : goal.invariant-loop-pg
invariant-loop-pg l = l.groups.items ≡ l.initial.groups.items ++ map (λ pg. record { pool = l.id; pg = pg }) (range_with_len 0 l.pg)
