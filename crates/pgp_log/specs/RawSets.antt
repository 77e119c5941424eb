-- Raw sets that are kept of a map.
use Rattle.std.specs.Prelude.{◌≡◌, ℕ, List, length, Bool, ◌||◌, nat_lt, is_some, Option, Some, IfSome}
use Rattle.std.specs.HashMap as hash
use Rattle.pgp_ids.specs.declared.incremental.Incremental.{Incremental}
use Rattle.pgp_ids.specs.declared.pg_id.PgId.{PgId}
use Rattle.pgp_map.specs.Pools.{is_same_group}
use Rattle.pgp_sets.specs.Sets.{raw_set_of}
use Rattle.pgp_log.specs.declared.raw_sets.RawSets.{RawSets}

-- the map that these incrementals make puts the group on these places
abbrev pub IsRawSet : List Incremental → PgId → List (Option ℕ) → Type 0
IsRawSet incs pg places = raw_set_of incs pg ≡ Some places

-- each raw set that is kept is that of its group
pub record AreRawSets (incs : List Incremental) (sets : RawSets) : Type 0 where
  pub each : (pg : PgId) → IfSome (hash.get is_same_group sets.known pg) (IsRawSet incs pg)

-- the incremental may move groups of some pool: it gives a tree, weights, or sizes
abbrev pub moves_any : Incremental → Bool
moves_any inc = is_some inc.crush || nat_lt 0 (length inc.weight) || nat_lt 0 (length inc.sizes)
