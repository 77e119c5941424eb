use Rattle.std.proofs.Common.{◌≡◌, ℕ, Some, true, codes, option_and_then, refl, sym, ap, ◌∙◌}
use Rattle.serde_json.specs.Data.{Data}
use Rattle.pgp_ids.specs.declared.pool.PoolKind.{PoolKind}
use Rattle.pgp_lines.specs.Ids.{pool_id_in, byte_in}
use Rattle.pgp_lines.specs.Pools.{pool_keys, pool_kind_in, pool_in}
use Rattle.pgp_lines.specs.Shapes.{field, number_in, has_only}
use Rattle.pgp_lines.specs.Value.{view}
use Rattle.pgp_lines.proofs.command.pools.PoolSpecPlain.from_value.Goals as goal

-- a pool by its fields
made : (d : Data) (kind : PoolKind) (id pg_num size min_size leaf : ℕ) → Some kind ≡ pool_kind_in d → has_only (pool_keys kind) d ≡ true
    → Some id ≡ field (codes "id") pool_id_in d → Some pg_num ≡ field (codes "pg_num") (number_in 0 65535) d → Some size ≡ field (codes "size") byte_in d
    → Some min_size ≡ field (codes "min_size") byte_in d → Some leaf ≡ field (codes "leaf") byte_in d
    → Some (record { id = id; pg_num = pg_num; kind = kind; size = size; min_size = min_size; leaf = leaf }) ≡ pool_in d
made d kind id pg_num size min_size leaf is_kind only is_id is_number is_size is_min is_leaf =
    rw (← is_kind, only, ← is_id, ← is_number, ← is_size, ← is_min, ← is_leaf) refl

pub returns : goal.returns
returns c =
    let d = view c.args.value.now in
    let only = ap (λ keys. has_only keys d) (sym c.pool_keys.ensures) ∙ sym c.if-not-has_only.ensures in
    let number = (rw c.from.ensures at c.in_ok-pg_num.ensures.value) ∙ ap (λ o. option_and_then (number_in 0 65535) o) c.in_ok-get.ensures in
    made d _ _ _ _ _ _ c.in_ok-kind.ensures only c.in_ok-id.ensures number c.in_ok-read_at.ensures c.in_ok-read_at-2.ensures c.in_ok-read_at-3.ensures
