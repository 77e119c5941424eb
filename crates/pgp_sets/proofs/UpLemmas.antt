-- Each device of a group's up set and acting set is up, and the up set has at most the pool's size of places.
use Rattle.std.proofs.Common.{◌≡◌, ◌≤◌, ℕ, List, [], ◌∷◌, length, Option, Some, None, true, false, refl, arith, ap, sym, ◌∙◌, subst}
use Rattle.std.proofs.lemmas.List.{length-map}
use Rattle.std.proofs.lemmas.List.Sums.{length-filter, count_by-le-length}
use Rattle.std.specs.List.{filter}
use Rattle.std.specs.Prelude.{map}
use Rattle.std.specs.Option.{option_map, option_map_or}
use Rattle.std.proofs.lemmas.Option.{same_Some}
use Rattle.pgp_ids.specs.Pool.{is_kind_by_place}
use Rattle.pgp_ids.specs.declared.incremental.Incremental.{Incremental}
use Rattle.pgp_ids.specs.declared.membership.Membership.{Membership}
use Rattle.pgp_ids.specs.declared.pg_id.PgId.{PgId}
use Rattle.pgp_ids.specs.declared.pool.PoolSpec.{PoolSpec}
use Rattle.pgp_crush.proofs.PlacementLemmas.{placement-at_most, placement-size}
use Rattle.pgp_map.specs.Devices.{is_up, weights}
use Rattle.pgp_map.specs.Map.{tree}
use Rattle.pgp_map.specs.Pools.{pool, temp}
use Rattle.pgp_sets.specs.Sets.{rule_of, placement_input, if_up, without_down, raw_set, up_set, acting_set, pool_membership, membership, are_up}

emptied : (incs : List Incremental) (places : List (Option ℕ)) → are_up incs (map (if_up incs) places) ≡ true
emptied incs [] = refl
emptied incs (place ∷ places) = grind (arith, emptied incs places)

left_out : (incs : List Incremental) (places : List (Option ℕ)) → are_up incs (filter (λ place. option_map_or (is_up incs) place false) places) ≡ true
left_out incs [] = refl
left_out incs (place ∷ places) = grind (arith, left_out incs places)

pub are_up-without_down : (incs : List Incremental) (pool : PoolSpec) (places : List (Option ℕ)) → are_up incs (without_down incs pool places) ≡ true
are_up-without_down incs pool places = grind (arith, emptied incs places, left_out incs places)

are_up-acting : (incs : List Incremental) (pg : PgId) (pool : PoolSpec) (up : List (Option ℕ)) → are_up incs up ≡ true → are_up incs (acting_set incs pool pg up) ≡ true
are_up-acting incs pg pool up there = grind (arith, are_up-without_down incs pool (temp incs pg))

-- what holds of the membership of each pool's group holds of a group's membership
of_pool : (P : Membership → Type 0) (incs : List Incremental) (pg : PgId) → ((made : PoolSpec) → P (pool_membership incs pg made)) → (members : Membership)
    → membership incs pg ≡ Some members → P members
of_pool P incs pg each members is = by_pool (pool incs pg.pool) is
  where
    by_pool : (found : Option PoolSpec) → option_map (pool_membership incs pg) found ≡ Some members → P members
    by_pool None none = cc
    by_pool (Some made) same = subst P (same_Some _ _ same) (each made)

pub up-are_up : (incs : List Incremental) (pg : PgId) (members : Membership) → membership incs pg ≡ Some members → are_up incs members.up ≡ true
up-are_up incs pg = of_pool (λ members. are_up incs members.up ≡ true) incs pg (λ made. are_up-without_down incs made (raw_set incs made pg))

pub acting-are_up : (incs : List Incremental) (pg : PgId) (members : Membership) → membership incs pg ≡ Some members → are_up incs members.acting ≡ true
acting-are_up incs pg =
    of_pool (λ members. are_up incs members.acting ≡ true) incs pg
    (λ made. are_up-acting incs pg made (up_set incs made pg) (are_up-without_down incs made (raw_set incs made pg)))

-- ---- sizes

without_down-at_most : (incs : List Incremental) (pool : PoolSpec) (places : List (Option ℕ)) → length (without_down incs pool places) ≤ length places
without_down-at_most incs pool places =
    let up = λ (place : Option ℕ). option_map_or (is_up incs) place false in
    grind (arith, length-map places (if_up incs), length-filter up places, count_by-le-length up places)

without_down-size : (incs : List Incremental) (pool : PoolSpec) (places : List (Option ℕ)) → is_kind_by_place pool.kind ≡ true → length (without_down incs pool places) ≡ length places
without_down-size incs pool places by_place = grind (arith, length-map places (if_up incs))

pub up-at_most : (incs : List Incremental) (pg : PgId) (members : Membership) → membership incs pg ≡ Some members → length members.up ≤ members.size
up-at_most incs pg = of_pool (λ members. length members.up ≤ members.size) incs pg (λ made.
    let placed = placement-at_most (tree incs) (rule_of made) (weights incs) (placement_input made pg) made.size in
    let kept = without_down-at_most incs made (raw_set incs made pg) in
    omega (arith, placed, kept))

pub up-size : (incs : List Incremental) (pg : PgId) (made : PoolSpec) (members : Membership) → pool incs pg.pool ≡ Some made → is_kind_by_place made.kind ≡ true
    → membership incs pg ≡ Some members → length members.up ≡ members.size
up-size incs pg made members there by_place is =
    let same : pool_membership incs pg made ≡ members = same_Some _ _ (ap (option_map (pool_membership incs pg)) (sym there) ∙ is) in
    subst (λ (m : Membership). length m.up ≡ m.size) same
    (without_down-size incs made (raw_set incs made pg) by_place ∙ placement-size (tree incs) (rule_of made) (weights incs) (placement_input made pg) made.size by_place)
