-- What a map incremental says of pools and groups, as C gives it. This project's own choice.
use Rattle.std.specs.Prelude.{ℕ, Bool, ◌&&◌, List, map, take, slice_get, Option, Some, None, option_map, nat_eq, nat_le, if◌then◌else◌}
use Rattle.std.specs.List.{list_all, range_with_len}
use Rattle.pgp_ids.specs.Parts.{has_twice, set_of}
use Rattle.pgp_ids.specs.declared.incremental.TempList.{TempList}
use Rattle.pgp_ids.specs.declared.part.Part.{Part}
use Rattle.pgp_ids.specs.declared.pg_id.PgId.{PgId}
use Rattle.pgp_ids.specs.declared.pool.PoolKind.{PoolKind}
use Rattle.pgp_ids.specs.declared.pool.PoolKind.TheVariants.{Replicated, Erasure, Grouped}
use Rattle.pgp_ids.specs.declared.pool.PoolSizes.{PoolSizes}
use Rattle.pgp_ids.specs.declared.pool.PoolSpec.{PoolSpec}
use Rattle.pgp_lines.specs.Shapes.{◌>>=◌}
use Rattle.pgp_c.specs.Ask.{group}
use Rattle.pgp_c.specs.Devices.{osd_of}
use Rattle.pgp_c.specs.Each.{each_given}
use Rattle.pgp_c.specs.declared.pools.PgpPart.{PgpPart}
use Rattle.pgp_c.specs.declared.pools.PgpPool.{PgpPool}
use Rattle.pgp_c.specs.declared.pools.PgpPoolSizes.{PgpPoolSizes}
use Rattle.pgp_c.specs.declared.pools.PgpTemp.{PgpTemp}

-- the pool of this number, from 1 to 255
abbrev pub pool_at : ℕ → Option ℕ
pool_at number = if nat_le 1 number && nat_le number 255 then Some number else None

-- the group of these numbers, the second from 0 to 1023
abbrev pub group_at : ℕ → ℕ → Option PgId
group_at pool pg = if nat_le 1 pool && (nat_le pool 255 && nat_le pg 1023) then Some (group pool pg) else None

-- a list of so many items, where an array has room for 16
abbrev pub first_items : {A : Type 0} → ℕ → List A → Option (List A)
first_items length items = if nat_le length 16 then Some (take length items) else None

-- the slots are from 0 to 15
abbrev pub are_slots : List ℕ → Bool
are_slots slots = list_all (λ slot. nat_le slot 15) slots

-- the part of these slots
abbrev pub part_with : ℕ → List ℕ → Option Part
part_with least slots = if are_slots slots then Some (record { slots = set_of slots; least = least; twice = has_twice slots }) else None

abbrev pub given_part : PgpPart → Option Part
given_part given = do
  slots ← first_items given.slots_length given.slots
  part_with given.least slots

-- 16 places, the first of which hold these parts; the others are empty
abbrev pub given_parts : List Part → List (Option Part)
given_parts parts = map (λ place. slice_get parts place) (range_with_len 0 16)

-- the parts of a grouped pool
abbrev pub groups_of : PgpPool → Option (List (Option Part))
groups_of given = do
  first ← first_items given.parts_length given.parts
  parts ← each_given given_part first
  Some (given_parts parts)

-- how a pool keeps its objects
abbrev pub kind_of : PgpPool → Option PoolKind
kind_of given =
    if nat_eq given.kind 0 then Some Replicated
    else (if nat_eq given.kind 1 then Some (Erasure given.k)
    else (if nat_eq given.kind 2 then option_map Grouped (groups_of given) else None))

-- how many groups a pool has, from 0 to 65535
abbrev pub pg_num_of : ℕ → Option ℕ
pg_num_of number = if nat_le number 65535 then Some number else None

abbrev pub pool_of : PgpPool → Option PoolSpec
pool_of given = do
  id ← pool_at given.id
  pg_num ← pg_num_of given.pg_num
  kind ← kind_of given
  Some (record { id = id; pg_num = pg_num; kind = kind; size = given.size; min_size = given.min_size; leaf = given.leaf })

abbrev pub pool_sizes_of : PgpPoolSizes → Option PoolSizes
pool_sizes_of given = option_map (λ pool. record { pool = pool; size = given.size; min_size = given.min_size }) (pool_at given.pool)

-- a place of a list of devices
abbrev pub given_place : ℕ → Option (Option ℕ)
given_place number = if nat_eq number 65535 then Some None else option_map Some (osd_of number)

abbrev pub temp_of : PgpTemp → Option TempList
temp_of given = do
  pg ← group_at given.pool given.pg
  first ← first_items given.length given.osds
  osds ← each_given given_place first
  Some (record { pg = pg; osds = osds })
