use Rattle.std.proofs.Common.{◌≡◌, ◌-◌, ◌^◌, min, take}
use Rattle.std.specs.Prelude.{sum_by}
use Rattle.pgp_tables.proofs.pools.group_sum.Given as goal

abbrev pub invariant-loop-pool : goal.invariant-loop-pool
invariant-loop-pool l = l.sum ≡ min (sum_by (λ pool. pool.pg_num) (take l.pool-index l.pools)) (2 ^ 32 - 1)
