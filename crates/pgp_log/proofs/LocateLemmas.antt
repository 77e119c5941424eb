-- The map has the group in which an object of a pool that is there lies.
use Rattle.pgp_log.proofs.Common.{◌≡◌, ℕ, ◌<◌, List, true, false, Some, nat_lt, ap, ◌∙◌, arith, nat_tests, and_parts, option_map_or, Incremental, PgId, PoolSpec, OsdMap, are_checked, HasGroup, is_from_one_to, IsMapOf, pool, pools-in_range, checked-has_group}

above_0 : (most n : ℕ) → is_from_one_to most n ≡ true → 0 < n
above_0 most n within = grind (arith, nat_tests)

-- a pool has a group
pub some-group : (incs : List Incremental) (id : ℕ) (made : PoolSpec) → are_checked incs ≡ true → pool incs id ≡ Some made → 0 < made.pg_num
some-group incs id made checked there = above_0 1024 made.pg_num ((and_parts _ _ (and_parts _ _ (pools-in_range incs id made checked there)).0).0)

is_below : (a b : ℕ) → a < b → nat_lt a b ≡ true
is_below a b below = grind (arith, nat_tests)

-- the map has each group of a pool
pub group-there : (incs : List Incremental) (map : OsdMap) (pg : PgId) (made : PoolSpec) → IsMapOf incs map → are_checked incs ≡ true
    → pool incs pg.pool ≡ Some made → pg.pg < made.pg_num → HasGroup map pg
group-there incs map pg made is checked there below =
    checked-has_group incs map pg is checked
    (ap (λ found. option_map_or (λ (made : PoolSpec). nat_lt pg.pg made.pg_num) found false) there ∙ is_below pg.pg made.pg_num below)
