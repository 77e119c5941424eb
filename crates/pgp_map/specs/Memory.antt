-- For which incrementals a map may lack memory: to look at them, and to take them (this project's own choice).
use Rattle.std.specs.Prelude.{◌≡◌, ◌⊎◌, List, length, Bool, true, false, ◌||◌, nat_lt, Option}
use Rattle.std.specs.Option.{option_map_or}
use Rattle.pgp_ids.specs.declared.bucket.BucketSpec.{BucketSpec}
use Rattle.pgp_ids.specs.declared.incremental.Incremental.{Incremental}
use Rattle.pgp_map.specs.Devices.{exists}
use Rattle.pgp_map.specs.MapFault.{map_fault, given_fault, has_epoch_gap}
use Rattle.pgp_tables.specs.DeviceTable.{names_absent}

-- the list has an item
abbrev pub is_filled : {X : Type 0} → List X → Bool
is_filled xs = nat_lt 0 (length xs)

-- a tree is given, with a bucket
abbrev pub has_bucket : Option (List BucketSpec) → Bool
has_bucket crush = option_map_or is_filled crush false

-- Looking at the incremental after those before it may lack memory: it changes their map; and it gives a pg_temp list,
-- or its tree alone may have a fault.
pub record MayLackMemory (incs : List Incremental) (inc : Incremental) : Type 0 where
  pub is_next : has_epoch_gap incs inc ≡ false
  pub cause : (is_filled inc.temp ≡ true) ⊎ ((has_bucket inc.crush ≡ true) × (map_fault incs inc ≡ given_fault inc.crush))

-- taking the incremental after those before it may lack memory: it names a device that isn't there, or gives a weight, a
-- pool, a pg_temp list or a tree
abbrev pub may_grow : List Incremental → Incremental → Bool
may_grow incs inc =
    names_absent (exists incs) inc || is_filled inc.weight || is_filled inc.pools || is_filled inc.temp || has_bucket inc.crush
