-- Where a placement group lies, by the map that a list of incrementals makes (Ceph's developer documentation on peering:
-- up set, acting set, primary).
use Rattle.std.specs.Prelude.{ℕ, List, [], Bool, true, false, not, ◌&&◌, ◌||◌, Option, None, Some, is_some, option_map, filter, map, length, nat_eq, nat_lt, if◌then◌else◌}
use Rattle.std.specs.List.{list_any, list_all}
use Rattle.std.specs.Option.{option_eq, option_map_or}
use Rattle.pgp_hash.specs.Hash.{hash2}
use Rattle.pgp_hash.specs.StableMod.{stable_mod}
use Rattle.pgp_crush.specs.declared.rule.Rule.{Rule}
use Rattle.pgp_crush.specs.Out.{is_in_by}
use Rattle.pgp_crush.specs.Placement.{placement}
use Rattle.pgp_ids.specs.Osds.{first_osd}
use Rattle.pgp_ids.specs.Pool.{is_kind_by_place}
use Rattle.pgp_ids.specs.declared.incremental.DeviceWeight.{DeviceWeight}
use Rattle.pgp_ids.specs.declared.incremental.Incremental.{Incremental}
use Rattle.pgp_ids.specs.declared.membership.Membership.{Membership}
use Rattle.pgp_ids.specs.declared.pg_id.PgId.{PgId}
use Rattle.pgp_ids.specs.declared.pool.PoolSpec.{PoolSpec}
use Rattle.pgp_map.specs.Devices.{is_up, weight, weights}
use Rattle.pgp_map.specs.Map.{tree, up_to}
use Rattle.pgp_map.specs.MapFault.{then_with}
use Rattle.pgp_map.specs.Pools.{pool, temp}

-- how a pool places its groups: in an erasure or grouped pool each position keeps its place
abbrev pub rule_of : PoolSpec → Rule
rule_of pool = record { indep = is_kind_by_place pool.kind; leaf = pool.leaf }

-- what a group's placement hashes: its number among those of the pool, and the pool
abbrev pub placement_input : PoolSpec → PgId → ℕ
placement_input pool pg = hash2 (stable_mod pg.pg pool.pg_num) pg.pool

-- where the tree puts the group, whatever became of the devices
abbrev pub raw_set : List Incremental → PoolSpec → PgId → List (Option ℕ)
raw_set incs pool pg = placement (tree incs) (rule_of pool) (weights incs) (placement_input pool pg) pool.size

-- the raw set of a group, where its pool is there
abbrev pub raw_set_of : List Incremental → PgId → Option (List (Option ℕ))
raw_set_of incs pg = option_map (λ made. raw_set incs made pg) (pool incs pg.pool)

-- the incremental may move groups of this pool: it gives a tree, weights, or sizes of the pool
abbrev pub moves : Incremental → ℕ → Bool
moves inc id = is_some inc.crush || nat_lt 0 (length inc.weight) || list_any (λ sizes. nat_eq sizes.pool id) inc.sizes

-- the place, emptied if its device isn't up
abbrev pub if_up : List Incremental → Option ℕ → Option ℕ
if_up incs place = if option_map_or (is_up incs) place false then place else None

-- the device stands in the list
abbrev pub has_osd : ℕ → List (Option ℕ) → Bool
has_osd osd places = list_any (option_eq nat_eq (Some osd)) places

-- for the placement of this input, which gave these places, the device comes in by its new weight, or goes out though it has one of
-- the places
abbrev pub switches : ℕ → List (Option ℕ) → ℕ → ℕ → ℕ → Bool
switches x places osd before after =
    if is_in_by before x osd then has_osd osd places && not (is_in_by after x osd) else is_in_by after x osd

-- the device with its weight by these incrementals
abbrev pub weighed : List Incremental → DeviceWeight → DeviceWeight
weighed incs given = record { osd = given.osd; weight = weight incs given.osd }

-- one of these devices, which had these weights, comes in for the group by the weight that it has now, or goes out of its places
abbrev pub switches_any : List Incremental → PgId → List (Option ℕ) → List DeviceWeight → Bool
switches_any incs pg places before =
    option_map_or (λ made. list_any (λ old. switches (placement_input made pg) places old.osd old.weight (weight incs old.osd)) before)
    (pool incs pg.pool) false

-- the places of the raw set, none where the group's pool isn't there
abbrev pub raw_places : List Incremental → PgId → List (Option ℕ)
raw_places incs pg = option_map_or (λ places. places) (raw_set_of incs pg) []

-- the tree may put the group elsewhere by the incremental: it gives a tree, sizes of the group's pool, or a weight by which a device
-- comes in for the group, or goes out of its raw set
abbrev pub may_place_elsewhere : List Incremental → Incremental → PgId → Bool
may_place_elsewhere incs inc pg =
    is_some inc.crush
    || list_any (λ sizes. nat_eq sizes.pool pg.pool) inc.sizes
    || switches_any (then_with incs inc) pg (raw_places incs pg) (map (weighed incs) inc.weight)

-- the list without devices that aren't up: their places are empty in an erasure or grouped pool, and left out in a replicated
-- one
abbrev pub without_down : List Incremental → PoolSpec → List (Option ℕ) → List (Option ℕ)
without_down incs pool places =
    if is_kind_by_place pool.kind then map (if_up incs) places else filter (λ place. option_map_or (is_up incs) place false) places

-- the group's placement, without devices that aren't up
abbrev pub up_set : List Incremental → PoolSpec → PgId → List (Option ℕ)
up_set incs pool pg = without_down incs pool (raw_set incs pool pg)

-- who serves: the devices of pg_temp that are up, or the up set where that leaves no place
abbrev pub acting_set : List Incremental → PoolSpec → PgId → List (Option ℕ) → List (Option ℕ)
acting_set incs pool pg up =
    let given = without_down incs pool (temp incs pg) in
    if nat_eq (length given) 0 then up else given

-- the membership of a group of this pool, where these are the sets
abbrev pub members_with : PoolSpec → List (Option ℕ) → List (Option ℕ) → Membership
members_with pool up acting =
    record {
      up = up;
      up_primary = first_osd up;
      acting = acting;
      acting_primary = first_osd acting;
      size = pool.size;
      min_size = pool.min_size;
    }

-- the membership of a group of this pool, where this is its up set
abbrev pub members_from_up : List Incremental → PoolSpec → PgId → List (Option ℕ) → Membership
members_from_up incs pool pg up = members_with pool up (acting_set incs pool pg up)

-- the membership of a group of this pool
abbrev pub pool_membership : List Incremental → PgId → PoolSpec → Membership
pool_membership incs pg pool = members_from_up incs pool pg (up_set incs pool pg)

-- the membership of a group, where its pool is there. A number that the pool lacks is answered as the group into which it
-- folds; that the pool has the group is HasGroup of the map, which each call that asks for a membership requires.
abbrev pub membership : List Incremental → PgId → Option Membership
membership incs pg = option_map (pool_membership incs pg) (pool incs pg.pool)

-- the membership at this epoch
abbrev pub membership_at : ℕ → List Incremental → PgId → Option Membership
membership_at epoch incs pg = membership (up_to epoch incs) pg

-- each device of the list is up
abbrev pub are_up : List Incremental → List (Option ℕ) → Bool
are_up incs places = list_all (λ place. option_map_or (is_up incs) place true) places
