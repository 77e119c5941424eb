use Rattle.std.proofs.Common.{◌≡◌, true, take}
use Rattle.pgp_ids.specs.declared.pg_id.PgId.{PgId}
use Rattle.pgp_lists.specs.Last.{last_where}
use Rattle.pgp_tables.specs.TempTable.{is_same_group}
use Rattle.pgp_tables.specs.TempTable.{temp_at, has_temp, with_temp}
use Rattle.pgp_tables.proofs.temps.put_all.Given as goal

abbrev pub invariant-loop-given : goal.invariant-loop-given
invariant-loop-given l = record {
  after : (q : PgId) → temp_at l.table q ≡ with_temp (last_where (λ given. is_same_group given.pg q) (take l.given-index l.temps)) (temp_at l.fn.table q);
  kept : (q : PgId) → has_temp l.fn.table q ≡ true → has_temp l.table q ≡ true;
}
