use Rattle.std.proofs.Common.{◌≡◌}
use Rattle.std.specs.List.{flat_map, range_with_len}
use Rattle.pgp_map.specs.MapOf.{Says}
use Rattle.pgp_whole.specs.Summary.{groups_of_pool}
use Rattle.pgp_whole.proofs.summary.all_groups.Given as goal

abbrev pub invariant-loop-below : goal.invariant-loop-below
invariant-loop-below l = Says l.map (λ incs. l.groups.items ≡ flat_map (groups_of_pool incs) (range_with_len 1 l.below))
