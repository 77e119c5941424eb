-- Lists of map incrementals, oldest first, each of which was checked when it came.
use Rattle.std.specs.Prelude.{List, Bool, is_none}
use Rattle.pgp_ids.specs.declared.incremental.Incremental.{Incremental}
use Rattle.pgp_lists.specs.Taken.{are_taken}
use Rattle.pgp_map.specs.MapFault.{map_fault}

-- the incremental has no fault after these
abbrev pub is_faultless : List Incremental → Incremental → Bool
is_faultless incs inc = is_none (map_fault incs inc)

-- each incremental has no fault after those before it
abbrev pub are_checked : List Incremental → Bool
are_checked incs = are_taken is_faultless incs
