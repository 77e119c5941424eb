-- The table of pg_temp lists of a map.
use Rattle.std.specs.Prelude.{ℕ, List, [], Bool, ◌&&◌, nat_eq, Option, Some, None, unwrap_or, is_some, take}
use Rattle.std.specs.HashMap as hash
use Rattle.std.specs.HashMap.{HashMap}
use Rattle.pgp_ids.specs.declared.incremental.TempList.{TempList}
use Rattle.pgp_ids.specs.declared.pg_id.PgId.{PgId}

-- the two groups are the same
abbrev pub is_same_group : PgId → PgId → Bool
is_same_group a b = nat_eq a.pool b.pool && nat_eq a.pg b.pg

-- the list of the group in the table; it is empty where the group has no place
abbrev pub temp_at : {S : Type 0} → HashMap PgId (List (Option ℕ)) S → PgId → List (Option ℕ)
temp_at table pg = unwrap_or (hash.get is_same_group table pg) []

-- the group has a place in the table
abbrev pub has_temp : {S : Type 0} → HashMap PgId (List (Option ℕ)) S → PgId → Bool
has_temp table pg = is_some (hash.get is_same_group table pg)

-- the first sixteen places of the list that is given, or else the list before
abbrev pub with_temp : Option TempList → List (Option ℕ) → List (Option ℕ)
with_temp None osds = osds
with_temp (Some given) osds = take 16 given.osds
