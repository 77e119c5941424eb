-- Small maps, each made by one incremental, of a pool with one placement group. All devices but device 0, or all of them,
-- have no weight, so that the placement is the same whatever the group hashes to.
use Rattle.std.specs.Prelude.{ℕ, pos, negsuc, List, [], ◌∷◌, Option, Some, map, refl}
use Rattle.std.specs.List.{range_with_len}
use Rattle.std.proofs.Common.{arith}
use Rattle.pgp_ids.specs.declared.bucket.BucketAlg.TheVariants.{Uniform}
use Rattle.pgp_ids.specs.declared.bucket.BucketSpec.{BucketSpec}
use Rattle.pgp_ids.specs.declared.incremental.DeviceWeight.{DeviceWeight}
use Rattle.pgp_ids.specs.declared.incremental.DeviceEpoch.{DeviceEpoch}
use Rattle.pgp_ids.specs.declared.incremental.Incremental.{Incremental}
use Rattle.pgp_ids.specs.declared.incremental.TempList.{TempList}
use Rattle.pgp_ids.specs.Osds.{first_osd}
use Rattle.pgp_ids.specs.declared.membership.Membership.{Membership}
use Rattle.pgp_ids.specs.declared.pg_id.PgId.{PgId}
use Rattle.pgp_ids.specs.declared.pool.PoolKind.TheVariants.{Replicated, Erasure}
use Rattle.pgp_map.specs.Examples.{empty_step, part_of, grouped}

-- a uniform root over the devices 0 to n - 1
abbrev pub root_over : ℕ → BucketSpec
root_over n =
    record {
      id = negsuc 0;
      kind = 1;
      alg = Uniform;
      items = map pos (range_with_len 0 n);
      weights = [];
      low = omega arith;
      negative = omega arith;
      weighed = refl;
    }

-- the devices with no weight
abbrev pub without_weight : List ℕ → List DeviceWeight
without_weight osds = map (λ osd. record { osd = osd; weight = 0 }) osds

-- a device and the weight that it is given
abbrev pub of_weight : ℕ → ℕ → DeviceWeight
of_weight osd weight = record { osd = osd; weight = weight }

-- a device and an epoch that is told of it
abbrev pub of_device : ℕ → ℕ → DeviceEpoch
of_device osd epoch = record { osd = osd; epoch = epoch }

-- the only group of pool 1, and that of pool 2
abbrev pub copies_group : PgId
copies_group = record { pool = 1; pg = 0 }

abbrev pub shards_group : PgId
shards_group = record { pool = 2; pg = 0 }

-- the group stands on these devices by pg_temp
abbrev pub stands_on : PgId → List (Option ℕ) → List TempList
stands_on pg osds = record { pg = pg; osds = osds } ∷ []

-- pool 1 of three copies, of which two have to be there, over three devices
abbrev pub copies_placed : Incremental
copies_placed =
    record (empty_step 1) {
      up = 0 ∷ 1 ∷ 2 ∷ [];
      weight = without_weight (1 ∷ 2 ∷ []);
      crush = Some (root_over 3 ∷ []);
      pools = record { id = 1; pg_num = 1; kind = Replicated; size = 3; min_size = 2; leaf = 0 } ∷ [];
    }

-- its group has one copy, and all three devices are in
abbrev pub one_copy_placed : Incremental
one_copy_placed =
    record copies_placed {
      weight = [];
      pools = record { id = 1; pg_num = 1; kind = Replicated; size = 1; min_size = 1; leaf = 0 } ∷ [];
    }

-- the same, and pg_temp puts the group on all three devices
abbrev pub copies_on_three : Incremental
copies_on_three = record copies_placed { temp = stands_on copies_group (Some 0 ∷ Some 1 ∷ Some 2 ∷ []) }

-- pool 2 of two data shards and one more over six devices, and pg_temp puts its group on the first three
abbrev pub shards_on_three : Incremental
shards_on_three =
    record (empty_step 1) {
      up = 0 ∷ 1 ∷ 2 ∷ 3 ∷ 4 ∷ 5 ∷ [];
      weight = without_weight (0 ∷ 1 ∷ 2 ∷ 3 ∷ 4 ∷ 5 ∷ []);
      crush = Some (root_over 6 ∷ []);
      pools = record { id = 2; pg_num = 1; kind = Erasure 2; size = 3; min_size = 2; leaf = 0 } ∷ [];
      temp = stands_on shards_group (Some 0 ∷ Some 1 ∷ Some 2 ∷ []);
    }

-- the same of a grouped pool, whose slots 0 and 2 are each a part
abbrev pub parts_on_three : Incremental
parts_on_three = record shards_on_three { pools = grouped 2 (part_of (0 ∷ []) 1 ∷ part_of (2 ∷ []) 1 ∷ []) ∷ [] }

-- an incremental that takes these devices down
abbrev pub take_down : ℕ → List ℕ → Incremental
take_down epoch osds = record (empty_step epoch) { down = osds }

-- new sizes of pool 1
abbrev pub resize : ℕ → ℕ → ℕ → Incremental
resize epoch size min_size =
    record (empty_step epoch) { sizes = record { pool = 1; size = size; min_size = min_size } ∷ [] }

-- a group of a pool of these sizes lies on these devices, and these serve it
abbrev pub lies_on : ℕ → ℕ → List (Option ℕ) → List (Option ℕ) → Membership
lies_on size min_size up acting =
    record {
      up = up;
      up_primary = first_osd up;
      acting = acting;
      acting_primary = first_osd acting;
      size = size;
      min_size = min_size;
    }
