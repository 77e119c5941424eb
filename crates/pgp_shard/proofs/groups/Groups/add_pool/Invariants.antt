use Rattle.pgp_shard.proofs.Common.{◌≡◌, ◌<◌, true, false, List, nat_eq, Entry, Incremental, PgId, then_with, incs_of, makes, HasStill, IsKeptIfOwn, IsStepping, marks_of, is_among}
use Rattle.pgp_shard.proofs.groups.Groups.add_pool.Given as goal

abbrev pub invariant-loop-number : goal.invariant-loop-number
invariant-loop-number l = record {
  is : (log : List Entry) (inc : Incremental) → makes l.id inc ≡ true → IsStepping l.owner log inc l.initial.self → IsStepping l.owner log inc l.self;
  own : (log : List Entry) (inc : Incremental) → makes l.id inc ≡ true → IsStepping l.owner log inc l.initial.self → (pg : PgId) → nat_eq l.id pg.pool ≡ true → pg.pg < l.number → IsKeptIfOwn l.owner (then_with (incs_of log) inc) l.self pg;
  still : HasStill l.initial.self l.self;
  marks : (other : PgId) → nat_eq l.id other.pool ≡ false → is_among other (marks_of l.self) ≡ is_among other (marks_of l.initial.self);
}
