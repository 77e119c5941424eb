-- Tables in which one entry after another is written.
use Rattle.std.proofs.Common.{◌≡◌, true}
use Rattle.std.proofs.lemmas.Bool.{and_parts, eqb-true}
use Rattle.std.proofs.lemmas.Grind.{take_at_read}
use Rattle.std.specs.Prelude.{nat_eq}
use Rattle.pgp_ids.specs.declared.pg_id.PgId.{PgId}
use Rattle.pgp_lists.proofs.Last.{last_where-push}
use Rattle.pgp_tables.specs.TempTable.{is_same_group}

-- groups with the same numbers are one
pub same_group : (a b : PgId) → is_same_group a b ≡ true → a ≡ b
same_group a b e =
    let parts = and_parts (nat_eq a.pool b.pool) (nat_eq a.pg b.pg) e in
    λ i. record { pool = eqb-true a.pool b.pool parts.0 i; pg = eqb-true a.pg b.pg parts.1 i }

-- what one more entry changes
pub ruleset write_steps = (take_at_read, last_where-push, eqb-true, same_group)
