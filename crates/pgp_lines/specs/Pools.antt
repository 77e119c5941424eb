-- What a map incremental says of pools and groups: pool objects, [pool, size, min_size] and [pool, pg, list].
use Rattle.std.specs.Prelude.{ℕ, true, List, [], ◌∷◌, codes, Option, Some, None, option_map, option_and_then, if◌then◌else◌}
use Rattle.std.specs.Str.{bytes_eq}
use Rattle.serde_json.specs.Data.{Data}
use Rattle.serde_json.specs.Find.{as_str}
use Rattle.pgp_ids.specs.declared.incremental.TempList.{TempList}
use Rattle.pgp_ids.specs.declared.pool.PoolKind.{PoolKind}
use Rattle.pgp_ids.specs.declared.pool.PoolKind.TheVariants.{Replicated, Erasure, Grouped}
use Rattle.pgp_ids.specs.declared.pool.PoolSizes.{PoolSizes}
use Rattle.pgp_ids.specs.declared.pool.PoolSpec.{PoolSpec}
use Rattle.pgp_lines.specs.Shapes.{number_in, triple_in, list_of, has_only, field, ◌>>=◌}
use Rattle.pgp_lines.specs.Groups.{groups_in}
use Rattle.pgp_lines.specs.Ids.{place_in, pool_id_in, byte_in, pg_id_in}

-- the keys of a pool's object
abbrev pub pool_keys : PoolKind → List (List ℕ)
pool_keys Replicated =
    codes "id" ∷ codes "kind" ∷ codes "leaf" ∷ codes "min_size" ∷ codes "pg_num" ∷ codes "size" ∷ []
pool_keys (Erasure k) =
    codes "id" ∷ codes "k" ∷ codes "kind" ∷ codes "leaf" ∷ codes "min_size" ∷ codes "pg_num" ∷ codes "size" ∷ []
pool_keys (Grouped groups) =
    codes "groups" ∷ codes "id" ∷ codes "kind" ∷ codes "leaf" ∷ codes "min_size" ∷ codes "pg_num" ∷ codes "size" ∷ []

-- the kind of this name, with its number of data shards or its parts
abbrev pub kind_named : Data → List ℕ → Option PoolKind
kind_named d name =
    if bytes_eq name (codes "replicated") then Some Replicated
    else (if bytes_eq name (codes "erasure") then option_map Erasure (field (codes "k") byte_in d)
    else (if bytes_eq name (codes "grouped") then option_map Grouped (field (codes "groups") groups_in d) else None))

-- the kind of a pool
abbrev pub pool_kind_in : Data → Option PoolKind
pool_kind_in d = option_and_then (kind_named d) (field (codes "kind") as_str d)

-- the fields of a pool of this kind
abbrev pub pool_fields_in : PoolKind → Data → Option PoolSpec
pool_fields_in kind d = do
  id ← field (codes "id") pool_id_in d
  pg_num ← field (codes "pg_num") (number_in 0 65535) d
  size ← field (codes "size") byte_in d
  min_size ← field (codes "min_size") byte_in d
  leaf ← field (codes "leaf") byte_in d
  Some (record { id = id; pg_num = pg_num; kind = kind; size = size; min_size = min_size; leaf = leaf })

-- a pool's object: the fields of its kind, and no other
abbrev pub pool_in : Data → Option PoolSpec
pool_in d = do
  kind ← pool_kind_in d
  if has_only (pool_keys kind) d then pool_fields_in kind d else None

-- [pool, size, min_size]
abbrev pub pool_sizes_in : Data → Option PoolSizes
pool_sizes_in d = do
  parts ← triple_in d
  pool ← pool_id_in parts.0
  size ← byte_in parts.1
  min_size ← byte_in parts.2
  Some (record { pool = pool; size = size; min_size = min_size })

-- [pool, pg, list of devices or null], of any length
abbrev pub temp_in : Data → Option TempList
temp_in d = do
  parts ← triple_in d
  pg ← pg_id_in parts.0 parts.1
  osds ← list_of (place_in true) parts.2
  Some (record { pg = pg; osds = osds })
