use Rattle.pgp_shard.proofs.Common.{◌≡◌, true, take, list_any, has, temp_key, PgId}
use Rattle.pgp_map.specs.Pools.{is_same_group}
use Rattle.pgp_shard.proofs.row.keys_of.Given as goal

abbrev pub invariant-loop-given : goal.invariant-loop-given
invariant-loop-given l = record {
  there : (pg : PgId) → list_any (λ given. is_same_group given.pg pg) (take l.given-index l.temps) ≡ true → has l.keys (temp_key pg) ≡ true;
}
