use Rattle.std.proofs.Common.{◌≡◌, Option, Some, arith}
use Rattle.std.specs.Option.{option_map}
use Rattle.pgp_ids.specs.declared.pool.PoolSpec.{PoolSpec}
use Rattle.pgp_map.specs.Pools.{pool}
use Rattle.pgp_sets.specs.Sets.{raw_set, without_down, members_from_up}
use Rattle.pgp_sets.proofs.membership.up_acting.Goals as goal

-- what is made of a group's pool in two steps, where the pool is there
two_steps : {P R M : Type 0} (first : P → R) (next : P → R → M) (found : Option P) (r : R) (m : M)
    → option_map first found ≡ Some r → option_map (λ p. next p r) found ≡ Some m → option_map (λ p. next p (first p)) found ≡ Some m
two_steps first next found r m one two = grind arith

pub returns : goal.returns
returns c =
    λ incs is. two_steps (λ (made : PoolSpec). raw_set incs made c.args.pg) (λ (made : PoolSpec) raw. members_from_up incs made c.args.pg (without_down incs made raw))
    (pool incs c.args.pg.pool) c.raw.result c.filter.result (c.raw.ensures incs is) (c.filter.ensures incs is)
