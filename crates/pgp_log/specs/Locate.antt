-- Where an object lies: in which placement group of its pool, by the hash of its name (Ceph: an object's placement group,
-- `ceph_stable_mod`), and where the map puts that group.
use Rattle.std.specs.Prelude.{◌≡◌, ℕ, List, Option, true, option_map, option_and_then}
use Rattle.pgp_hash.specs.NameHash.{name_hash}
use Rattle.pgp_hash.specs.StableMod.{stable_mod}
use Rattle.pgp_ids.specs.declared.incremental.Incremental.{Incremental}
use Rattle.pgp_ids.specs.declared.membership.Membership.{Membership}
use Rattle.pgp_ids.specs.declared.pg_id.PgId.{PgId}
use Rattle.pgp_ids.specs.declared.pool.PoolSpec.{PoolSpec}
use Rattle.pgp_map.specs.Checked.{are_checked}
use Rattle.pgp_map.specs.MapOf.{IsMapOf}
use Rattle.pgp_map.specs.Pools.{pool}
use Rattle.pgp_map.specs.declared.map.OsdMap.{OsdMap}
use Rattle.pgp_sets.specs.Sets.{membership}
use Rattle.pgp_log.specs.declared.place.ObjectPlace.{ObjectPlace}

-- the group of an object in the pool of this number
abbrev pub group_in_pool : ℕ → List ℕ → PoolSpec → PgId
group_in_pool id name pool = record { pool = id; pg = stable_mod (name_hash name) pool.pg_num }

-- the group of an object, where the map has the pool
abbrev pub group_of_object : List Incremental → ℕ → List ℕ → Option PgId
group_of_object incs id name = option_map (group_in_pool id name) (pool incs id)

-- the place of every object of the group, where these are its members
abbrev pub place_with : PgId → Membership → ObjectPlace
place_with pg members = record { pg = pg; members = members }

-- the group of an object and its membership, where the map has the pool
abbrev pub place_of_object : List Incremental → ℕ → List ℕ → Option ObjectPlace
place_of_object incs id name =
    option_and_then (λ pg. option_map (place_with pg) (membership incs pg)) (group_of_object incs id name)

-- the map is one of incrementals that were checked
pub record IsCheckedMap (map : OsdMap) : Type 0 where
  pub incs : List Incremental
  pub is : IsMapOf incs map
  pub checked : are_checked incs ≡ true
