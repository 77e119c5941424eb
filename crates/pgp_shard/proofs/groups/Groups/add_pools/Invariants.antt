use Rattle.pgp_shard.proofs.Common.{◌≡◌, true, false, List, take, list_any, nat_eq, Entry, PgId, then_with, incs_of, HasStill, IsKeptIfOwn, IsStepping, marks_of, is_among}
use Rattle.pgp_shard.proofs.groups.Groups.add_pools.Given as goal

abbrev pub invariant-loop-pool : goal.invariant-loop-pool
invariant-loop-pool l = record {
  is : (log : List Entry) → IsStepping l.owner log l.inc l.initial.self → IsStepping l.owner log l.inc l.self;
  own : (log : List Entry) → IsStepping l.owner log l.inc l.initial.self → (pg : PgId) → list_any (λ made. nat_eq made.id pg.pool) (take l.pool-index l.inc.pools) ≡ true → IsKeptIfOwn l.owner (then_with (incs_of log) l.inc) l.self pg;
  still : HasStill l.initial.self l.self;
  marks : (other : PgId) → list_any (λ made. nat_eq made.id other.pool) l.inc.pools ≡ false → is_among other (marks_of l.self) ≡ is_among other (marks_of l.initial.self);
}
