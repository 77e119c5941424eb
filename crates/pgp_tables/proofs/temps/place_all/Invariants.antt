use Rattle.std.proofs.Common.{◌≡◌, true, take}
use Rattle.std.specs.List.{list_any}
use Rattle.pgp_ids.specs.declared.pg_id.PgId.{PgId}
use Rattle.pgp_tables.specs.TempTable.{is_same_group}
use Rattle.pgp_tables.specs.TempTable.{temp_at, has_temp}
use Rattle.pgp_tables.proofs.temps.place_all.Given as goal

abbrev pub invariant-loop-given : goal.invariant-loop-given
invariant-loop-given l = record {
  same : (q : PgId) → temp_at l.table q ≡ temp_at l.fn.table q;
  placed : (q : PgId) → list_any (λ given. is_same_group given.pg q) (take l.given-index l.temps) ≡ true → has_temp l.table q ≡ true;
  kept : (q : PgId) → has_temp l.fn.table q ≡ true → has_temp l.table q ≡ true;
}
