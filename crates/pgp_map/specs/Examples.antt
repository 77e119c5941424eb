-- Small map incrementals.
use Rattle.std.specs.Prelude.{ℕ, ◌-◌, List, [], ◌∷◌, ◌++◌, Option, Some, None, map, length, replicate}
use Rattle.std.specs.List.{range_with_len}
use Rattle.pgp_ids.specs.Incremental.{no_change}
use Rattle.pgp_ids.specs.Parts.{set_of, has_twice}
use Rattle.pgp_ids.specs.declared.incremental.DeviceEpoch.{DeviceEpoch}
use Rattle.pgp_ids.specs.declared.incremental.DeviceWeight.{DeviceWeight}
use Rattle.pgp_ids.specs.declared.incremental.Incremental.{Incremental}
use Rattle.pgp_ids.specs.declared.incremental.TempList.{TempList}
use Rattle.pgp_ids.specs.declared.part.Part.{Part}
use Rattle.pgp_ids.specs.declared.pool.PoolKind.TheVariants.{Replicated, Erasure, Grouped}
use Rattle.pgp_ids.specs.declared.pool.PoolSizes.{PoolSizes}
use Rattle.pgp_ids.specs.declared.pool.PoolSpec.{PoolSpec}

-- an incremental that changes nothing but the epoch
abbrev pub empty_step : ℕ → Incremental
empty_step epoch = no_change (epoch - 1) epoch

-- an incremental that boots these devices
abbrev pub boot : ℕ → List ℕ → Incremental
boot epoch osds = record (empty_step epoch) { up = osds }

-- the device has this weight, or this epoch is told of it
abbrev pub weighs : ℕ → ℕ → List DeviceWeight
weighs osd weight = record { osd = osd; weight = weight } ∷ []

abbrev pub dated : ℕ → ℕ → List DeviceEpoch
dated osd epoch = record { osd = osd; epoch = epoch } ∷ []

-- device 0 is up since epoch 1
abbrev pub one_up : List Incremental
one_up = boot 1 (0 ∷ []) ∷ []

-- devices 0 and 1 are there, 1 is down and was up through epoch 2
abbrev pub one_up_one_down : List Incremental
one_up_one_down = boot 1 (0 ∷ 1 ∷ []) ∷ record (empty_step 2) { down = 1 ∷ []; up_thru = dated 1 2 } ∷ []

-- a replicated pool of one group
abbrev pub pool_of_copies : ℕ → ℕ → PoolSpec
pool_of_copies id size = record { id = id; pg_num = 1; kind = Replicated; size = size; min_size = 1; leaf = 0 }

-- an erasure pool of one group and size 3, of which two shards give an object back
abbrev pub pool_of_shards : ℕ → PoolSpec
pool_of_shards id = record { id = id; pg_num = 1; kind = Erasure 2; size = 3; min_size = 2; leaf = 0 }

-- an erasure pool of one group and size 3, of which this many shards give an object back
abbrev pub shards_of : ℕ → PoolSpec
shards_of k = record { id = 1; pg_num = 1; kind = Erasure k; size = 3; min_size = 3; leaf = 0 }

-- the part whose slots are written as this list, of which `least` have to be at hand
abbrev pub part_of : List ℕ → ℕ → Option Part
part_of slots least = Some (record { slots = set_of slots; least = least; twice = has_twice slots })

-- a grouped pool of one group and size 3 with these parts, in the first of its 16 places for them
abbrev pub grouped : ℕ → List (Option Part) → PoolSpec
grouped id parts =
    record { id = id; pg_num = 1; kind = Grouped (parts ++ replicate (16 - length parts) None); size = 3; min_size = 2; leaf = 0 }

-- the first incremental, which makes this pool and nothing else
abbrev pub pool_step : PoolSpec → Incremental
pool_step pool = record (empty_step 1) { pools = pool ∷ [] }

-- this many pools of 1,024 groups and one copy
abbrev pub large_pools : ℕ → List PoolSpec
large_pools count =
    map (λ id. record { id = id; pg_num = 1024; kind = Replicated; size = 1; min_size = 1; leaf = 0 }) (range_with_len 1 count)

abbrev pub sized : ℕ → ℕ → ℕ → List PoolSizes
sized pool size min_size = record { pool = pool; size = size; min_size = min_size } ∷ []

-- group 0 of the pool lies on these devices
abbrev pub placed : ℕ → List (Option ℕ) → List TempList
placed pool osds = record { pg = record { pool = pool; pg = 0 }; osds = osds } ∷ []

-- devices 0, 1 and 2 boot, and pool 1 of three copies and pool 2 of three shards are made
abbrev pub two_pools : List Incremental
two_pools = record (boot 1 (0 ∷ 1 ∷ 2 ∷ [])) { pools = pool_of_copies 1 3 ∷ pool_of_shards 2 ∷ [] } ∷ []

-- device 0 boots and gets a weight; it is said to be up through epoch 1 and goes down; it is given up for lost; it is
-- destroyed; it boots again
abbrev pub made_again : List Incremental
made_again =
    record (boot 1 (0 ∷ [])) { weight = weighs 0 5 }
    ∷ record (empty_step 2) { down = 0 ∷ []; up_thru = dated 0 1 }
    ∷ record (empty_step 3) { lost = dated 0 3 }
    ∷ record (empty_step 4) { gone = 0 ∷ [] }
    ∷ boot 5 (0 ∷ [])
    ∷ []
