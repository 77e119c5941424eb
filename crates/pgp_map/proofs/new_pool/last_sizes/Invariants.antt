use Rattle.std.proofs.Common.{◌≡◌, nat_eq, take}
use Rattle.pgp_lists.specs.Last.{last_where}
use Rattle.pgp_map.proofs.new_pool.last_sizes.Given as goal

abbrev pub invariant-loop-given : goal.invariant-loop-given
invariant-loop-given l = l.last ≡ last_where (λ given. nat_eq given.pool l.id) (take l.given-index l.sizes)
