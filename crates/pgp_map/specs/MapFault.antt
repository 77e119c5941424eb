-- Which map incrementals are refused, and why. `incs` are those that were taken before, oldest first; they make the old
-- map, and with the incremental the new one. The order of the faults is this project's own choice.
use Rattle.std.specs.Prelude.{ℕ, ◌+◌, List, [], ◌∷◌, ◌++◌, length, map, filter_map, sum_by, Bool, true, false, not, ◌&&◌, ◌||◌, nat_eq, nat_lt, nat_le, Option, Some, is_none, is_some, option_map, option_and_then, if◌then◌else◌}
use Rattle.std.specs.List.{list_any}
use Rattle.std.specs.Option.{option_map_or}
use Rattle.pgp_crush.specs.Bucket.{bucket_of}
use Rattle.pgp_crush.specs.TreeFault.{tree_fault}
use Rattle.pgp_ids.specs.Parts.{are_parts}
use Rattle.pgp_ids.specs.Pool.{is_kind_by_place}
use Rattle.pgp_ids.specs.declared.bucket.BucketSpec.{BucketSpec}
use Rattle.pgp_ids.specs.declared.incremental.Incremental.{Incremental}
use Rattle.pgp_ids.specs.declared.incremental.TempList.{TempList}
use Rattle.pgp_ids.specs.declared.pool.PoolKind.{PoolKind}
use Rattle.pgp_ids.specs.declared.pool.PoolKind.TheVariants.{Replicated, Erasure, Grouped}
use Rattle.pgp_ids.specs.declared.pool.PoolSizes.{PoolSizes}
use Rattle.pgp_ids.specs.declared.pool.PoolSpec.{PoolSpec}
use Rattle.pgp_map.specs.declared.fault.MapFault.{MapFault}
use Rattle.pgp_map.specs.declared.fault.MapFault.TheVariants.{EpochGap, Twice, UnknownDevice, AlreadyUp, AlreadyDown, StillUp, UpThruBack, Ahead, BadPool, PoolKnown, BadTemp, TreeFault}
use Rattle.pgp_lists.specs.Repeats.{has_repeat}
use Rattle.pgp_map.specs.Devices.{boots, exists, is_up, up_thru}
use Rattle.pgp_map.specs.Map.{epoch}
use Rattle.pgp_map.specs.Pools.{pool, group_count, is_same_group}

-- the old map with the incremental
abbrev pub then_with : List Incremental → Incremental → List Incremental
then_with incs inc = incs ++ inc ∷ []

-- the incremental changes a map of another epoch, or doesn't lead to a later one
abbrev pub has_epoch_gap : List Incremental → Incremental → Bool
has_epoch_gap incs inc = not (nat_eq inc.after (epoch incs) && nat_lt inc.after inc.epoch)

-- a device is twice in up, down and gone together, or in one of weight, up_thru and lost; or a pool in pools and sizes
-- together; or a group in temp. It is so also where both say the same.
abbrev pub names_twice : Incremental → Bool
names_twice inc =
    has_repeat nat_eq (inc.up ++ inc.down ++ inc.gone)
    || has_repeat nat_eq (map (λ entry. entry.osd) inc.weight)
    || has_repeat nat_eq (map (λ entry. entry.osd) inc.up_thru)
    || has_repeat nat_eq (map (λ entry. entry.osd) inc.lost)
    || has_repeat nat_eq (map (λ made. made.id) inc.pools ++ map (λ sizes. sizes.pool) inc.sizes)
    || has_repeat is_same_group (map (λ given. given.pg) inc.temp)

-- the devices that down, gone, weight, up_thru and lost name
abbrev pub devices_that_must_exist : Incremental → List ℕ
devices_that_must_exist inc =
    inc.down ++ inc.gone
    ++ map (λ entry. entry.osd) inc.weight
    ++ map (λ entry. entry.osd) inc.up_thru
    ++ map (λ entry. entry.osd) inc.lost

-- one of them is absent in the old map and doesn't boot
abbrev pub has_unknown_device : List Incremental → Incremental → Bool
has_unknown_device incs inc = list_any (λ osd. not (exists incs osd || boots osd inc)) (devices_that_must_exist inc)

-- up names a device that is up in the old map
abbrev pub has_already_up : List Incremental → Incremental → Bool
has_already_up incs inc = list_any (is_up incs) inc.up

-- down names a device that is there and down in the old map
abbrev pub has_already_down : List Incremental → Incremental → Bool
has_already_down incs inc = list_any (λ osd. exists incs osd && not (is_up incs osd)) inc.down

-- lost names a device that is up in the new map
abbrev pub has_lost_up : List Incremental → Incremental → Bool
has_lost_up incs inc = list_any (λ entry. is_up (then_with incs inc) entry.osd) inc.lost

-- gone names a device that is up in the old map, or lost one that is up in the new map
abbrev pub has_still_up : List Incremental → Incremental → Bool
has_still_up incs inc = list_any (is_up incs) inc.gone || has_lost_up incs inc

-- an up_thru is below that of the device in the old map
abbrev pub has_up_thru_back : List Incremental → Incremental → Bool
has_up_thru_back incs inc = list_any (λ entry. nat_lt entry.epoch (up_thru incs entry.osd)) inc.up_thru

-- an up_thru or lost is above the incremental's epoch
abbrev pub has_ahead : Incremental → Bool
has_ahead inc = list_any (λ entry. nat_lt inc.epoch entry.epoch) (inc.up_thru ++ inc.lost)

-- the number is one of 1 to the last
abbrev pub is_from_one_to : ℕ → ℕ → Bool
is_from_one_to last number = nat_le 1 number && nat_le number last

-- the size is 1 to 16, and min_size 1 to it
abbrev pub are_sizes : ℕ → ℕ → Bool
are_sizes size min_size = is_from_one_to 16 size && is_from_one_to size min_size

-- in an erasure pool k is 1 to the size, and in a grouped pool the size allows the parts
abbrev pub is_kind : PoolKind → ℕ → Bool
is_kind Replicated size = true
is_kind (Erasure k) size = is_from_one_to size k
is_kind (Grouped groups) size = are_parts size groups

-- a pool's numbers are in range
abbrev pub is_pool : PoolSpec → Bool
is_pool made = is_from_one_to 1024 made.pg_num && are_sizes made.size made.min_size && is_kind made.kind made.size

-- a pool's sizes can't change to these: it isn't in the old map, or it is an erasure or grouped pool of another size, or they
-- are out of range
abbrev pub are_bad_sizes : List Incremental → PoolSizes → Bool
are_bad_sizes incs sizes =
    not (are_sizes sizes.size sizes.min_size)
    || option_map_or (λ made. is_kind_by_place made.kind && not (nat_eq made.size sizes.size)) (pool incs sizes.pool) true

-- a pool is made of numbers out of range, or has sizes that it can't change to; or the old pools and the ones made have
-- more than 16384 groups, where a pool that is made again counts in both
abbrev pub has_bad_pool : List Incremental → Incremental → Bool
has_bad_pool incs inc =
    list_any (λ made. not (is_pool made)) inc.pools
    || list_any (are_bad_sizes incs) inc.sizes
    || nat_lt 16384 (group_count incs + sum_by (λ made. made.pg_num) inc.pools)

-- a pool is made that is in the old map
abbrev pub has_pool_known : List Incremental → Incremental → Bool
has_pool_known incs inc = list_any (λ made. is_some (pool incs made.id)) inc.pools

-- the pool can't have this pg_temp list: a replicated pool none with an empty place, an erasure or grouped pool none of
-- another length than its size, except the empty list
abbrev pub has_bad_places : PoolSpec → List (Option ℕ) → Bool
has_bad_places made osds =
    if is_kind_by_place made.kind then not (nat_eq (length osds) 0) && not (nat_eq (length osds) made.size) else list_any is_none osds

-- the pool isn't there or hasn't the group, or the group's list has more than 16 places, or a device twice, or is none that
-- the pool can have
abbrev pub is_bad_list : Option PoolSpec → TempList → Bool
is_bad_list pool given =
    not (option_map_or (λ made. nat_lt given.pg.pg made.pg_num) pool false)
    || nat_lt 16 (length given.osds)
    || has_repeat nat_eq (filter_map (λ place. place) given.osds)
    || option_map_or (λ made. has_bad_places made given.osds) pool true

-- the group can't have the list that it is given, by its pool in this map
abbrev pub is_bad_temp : List Incremental → TempList → Bool
is_bad_temp incs given = is_bad_list (pool incs given.pg.pool) given

-- temp has a list that its group can't have in the new map
abbrev pub has_bad_temp : List Incremental → Incremental → Bool
has_bad_temp incs inc = list_any (is_bad_temp (then_with incs inc)) inc.temp

-- the first fault of the tree that is given, if one is
abbrev pub given_fault : Option (List BucketSpec) → Option MapFault
given_fault crush = option_map TreeFault (option_and_then (λ buckets. tree_fault (map bucket_of buckets)) crush)

-- the first fault of the incremental, in this order
unfoldable pub map_fault : List Incremental → Incremental → Option MapFault
map_fault incs inc =
    if has_epoch_gap incs inc then Some EpochGap
    else (if names_twice inc then Some Twice
    else (if has_unknown_device incs inc then Some UnknownDevice
    else (if has_already_up incs inc then Some AlreadyUp
    else (if has_already_down incs inc then Some AlreadyDown
    else (if has_still_up incs inc then Some StillUp
    else (if has_up_thru_back incs inc then Some UpThruBack
    else (if has_ahead inc then Some Ahead
    else (if has_bad_pool incs inc then Some BadPool
    else (if has_pool_known incs inc then Some PoolKnown
    else (if has_bad_temp incs inc then Some BadTemp
    else given_fault inc.crush))))))))))
