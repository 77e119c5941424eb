-- The table of weights of a map.
use Rattle.std.specs.Prelude.{ℕ, List, Bool, ◌||◌, nat_eq, slice_index_or, Option, Some, None}
use Rattle.pgp_ids.specs.declared.incremental.DeviceWeight.{DeviceWeight}

-- a table is empty, or has all devices
abbrev pub is_full_weight : ℕ → Bool
is_full_weight len = nat_eq len 0 || nat_eq len 4096

-- the weight of the device; it is fully in where the table has none
abbrev pub weight_in : List ℕ → ℕ → ℕ
weight_in table osd = slice_index_or table osd 65536

-- the weight that is given, or else the one before
abbrev pub with_weight : Option DeviceWeight → ℕ → ℕ
with_weight None weight = weight
with_weight (Some given) weight = given.weight
