use Rattle.std.proofs.Common.{◌≤◌, length, take}
use Rattle.std.specs.List.{flat_map}
use Rattle.pgp_join.proofs.bound.lists_given.Given as goal

abbrev pub invariant-loop-it : goal.invariant-loop-it
invariant-loop-it l = l.lists ≤ length (flat_map (λ placed. placed.inc.now.temp) (take l.it-index l.incs))
