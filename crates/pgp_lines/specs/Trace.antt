-- The values of a trace line, in this project's own format: a code, and a group's epochs from epoch 1 on.
use Rattle.std.specs.Prelude.{ℕ, List, [], ◌∷◌, Bool, true, ◌&&◌, codes, if◌then◌else◌, Option, Some, None}
use Rattle.pgp_ids.specs.declared.pool.PoolKind.{PoolKind}
use Rattle.pgp_ids.specs.declared.pool.PoolKind.TheVariants.{Replicated, Erasure, Grouped}
use Rattle.serde_json.specs.Data.{Data}
use Rattle.pgp_ids.specs.Osds.{first_osd}
use Rattle.pgp_ids.specs.Parts.{are_parts}
use Rattle.pgp_ids.specs.declared.history.EpochState.{EpochState}
use Rattle.pgp_lines.specs.Format.{has_pool_kind}
use Rattle.pgp_lines.specs.Ids.{place_in, word_in}
use Rattle.pgp_lines.specs.Pools.{pool_kind_in}
use Rattle.pgp_lines.specs.Shapes.{is_between, number_in, list_in, has_only, field, ◌>>=◌}
use Rattle.pgp_lines.specs.declared.command.format.Format.{Format}

-- the keys of a code's object
abbrev pub code_keys : PoolKind → List (List ℕ)
code_keys Replicated = codes "kind" ∷ []
code_keys (Erasure k) = codes "k" ∷ codes "kind" ∷ []
code_keys (Grouped groups) = codes "groups" ∷ codes "kind" ∷ []

-- a trace can have this code: 1 to 16 data shards, or parts that a pool of size 16 can have
abbrev pub is_code : PoolKind → Bool
is_code Replicated = true
is_code (Erasure k) = is_between 1 16 k
is_code (Grouped groups) = are_parts 16 groups

-- how the group's pool keeps its objects, in a line of this version: an object with the keys of its kind and no other
abbrev pub code_in : Format → Data → Option PoolKind
code_in format d = do
  kind ← pool_kind_in d
  if has_only (code_keys kind) d && is_code kind && has_pool_kind format kind then Some kind else None

-- the places of a list of devices, at most 16
abbrev pub osds_in : Bool → Data → Option (List (Option ℕ))
osds_in nulls d = list_in 0 16 (place_in nulls) d

-- an epoch's state: each primary is the first device of its list
abbrev pub epoch_state : List (Option ℕ) → List (Option ℕ) → ℕ → ℕ → ℕ → ℕ → EpochState
epoch_state up acting size min_size up_from up_thru = record {
  members = record {
    up = up;
    up_primary = first_osd up;
    acting = acting;
    acting_primary = first_osd acting;
    size = size;
    min_size = min_size;
  };
  facts = record { up_from = up_from; up_thru = up_thru };
}

-- the keys that an epoch's object must have
abbrev pub epoch_keys : List (List ℕ)
epoch_keys = codes "acting" ∷ codes "min_size" ∷ codes "size" ∷ codes "up" ∷ codes "up_from" ∷ codes "up_thru" ∷ []

-- the fields of an epoch's object: how many members a group has and with how many of them it may serve among them
abbrev pub epoch_fields_in : Bool → Data → Option EpochState
epoch_fields_in nulls d = do
  up_from ← field (codes "up_from") word_in d
  up_thru ← field (codes "up_thru") word_in d
  size ← field (codes "size") (number_in 1 16) d
  min_size ← field (codes "min_size") (number_in 1 size) d
  up ← field (codes "up") (osds_in nulls) d
  acting ← field (codes "acting") (osds_in nulls) d
  Some (epoch_state up acting size min_size up_from up_thru)

-- an object with these fields and no other
abbrev pub epoch_state_in : Bool → Data → Option EpochState
epoch_state_in nulls d = if has_only epoch_keys d then epoch_fields_in nulls d else None

-- 1 to 4,096 epochs
abbrev pub epochs_in : Bool → Data → Option (List EpochState)
epochs_in nulls d = list_in 1 4096 (epoch_state_in nulls) d
