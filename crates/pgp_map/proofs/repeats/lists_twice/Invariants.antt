use Rattle.std.proofs.Common.{◌≡◌, map, take}
use Rattle.pgp_map.proofs.repeats.lists_twice.Given as goal

abbrev pub invariant-loop-given : goal.invariant-loop-given
invariant-loop-given l = l.groups.items ≡ map (λ given. given.pg) (take l.given-index l.temps)
