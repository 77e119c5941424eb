-- How the members of a pool's groups are placed.
use Rattle.std.specs.Prelude.{Bool, true, false}
use Rattle.pgp_ids.specs.declared.pool.PoolKind.{PoolKind}
use Rattle.pgp_ids.specs.declared.pool.PoolKind.TheVariants.{Replicated, Erasure, Grouped}

-- each member has a place of its own, which is its slot
abbrev pub is_kind_by_place : PoolKind → Bool
is_kind_by_place Replicated = false
is_kind_by_place (Erasure k) = true
is_kind_by_place (Grouped groups) = true
