-- What an incremental changes at all (this project's own choice).
use Rattle.std.specs.Prelude.{ℕ, List, Option, length, Bool, ◌&&◌, ◌||◌, not, ◌==◌}
use Rattle.pgp_ids.specs.declared.incremental.Incremental.{Incremental}
use Rattle.pgp_ids.specs.declared.pg_id.PgId.{PgId}
use Rattle.pgp_group.specs.Touched.{changes_pool, changes_temp, has_osd, moves_all}

-- the incremental boots no device, takes none down and destroys none
abbrev pub turns_none : Incremental → Bool
turns_none inc = (length inc.up == 0) && (length inc.down == 0) && (length inc.gone == 0)

-- the incremental tells nothing of devices
abbrev pub tells_nothing : Incremental → Bool
tells_nothing inc = turns_none inc && (length inc.up_thru == 0) && (length inc.lost == 0)

-- the incremental makes no pool, and changes none, and no pg_temp list
abbrev pub changes_no_pool : Incremental → Bool
changes_no_pool inc = (length inc.pools == 0) && (length inc.sizes == 0) && (length inc.temp == 0)

-- the incremental moves no group: it changes no placement, no pool and no pg_temp list, and turns no device
abbrev pub moves_none : Incremental → Bool
moves_none inc = not (moves_all inc) && changes_no_pool inc && turns_none inc

-- the incremental may change where the group lies, whatever becomes of devices
abbrev pub changes_placement : Incremental → PgId → Bool
changes_placement inc pg = moves_all inc || changes_pool inc pg.pool || changes_temp inc pg

-- the incremental may change where some group lies, whatever becomes of devices
abbrev pub changes_placements : Incremental → Bool
changes_placements inc = moves_all inc || not (changes_no_pool inc)

-- the device stands in the raw set or in the pg_temp list
abbrev pub stands_in : List (Option ℕ) → List (Option ℕ) → ℕ → Bool
stands_in raw temp osd = has_osd osd raw || has_osd osd temp

-- the incremental changes the epoch alone
abbrev pub changes_nothing : Incremental → Bool
changes_nothing inc = not (moves_all inc) && changes_no_pool inc && tells_nothing inc
