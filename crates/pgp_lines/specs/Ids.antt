-- The shapes of ids, epochs and weights in lines, in this project's own format over JSON.
use Rattle.std.specs.Prelude.{ℕ, Bool, ◌&&◌, Option, Some, None, is_some, option_map, if◌then◌else◌}
use Rattle.serde_json.specs.Data.{Data}
use Rattle.serde_json.specs.Find.{as_null}
use Rattle.pgp_ids.specs.declared.pg_id.PgId.{PgId}
use Rattle.pgp_lines.specs.Shapes.{number_in, ◌>>=◌}

-- a device
abbrev pub osd_in : Data → Option ℕ
osd_in d = number_in 0 4095 d

-- a device, or null where an empty place is allowed
abbrev pub place_in : Bool → Data → Option (Option ℕ)
place_in nulls d = if nulls && is_some (as_null d) then Some None else option_map Some (osd_in d)

-- a pool
abbrev pub pool_id_in : Data → Option ℕ
pool_id_in d = number_in 1 255 d

-- a slot of a member
abbrev pub slot_in : Data → Option ℕ
slot_in d = number_in 0 15 d

-- a number that has one byte
abbrev pub byte_in : Data → Option ℕ
byte_in d = number_in 0 255 d

-- an epoch, a stamp, a part of a version or a weight
abbrev pub word_in : Data → Option ℕ
word_in d = number_in 0 4294967295 d

-- a group by its pool and its number in it
abbrev pub pg_id_in : Data → Data → Option PgId
pg_id_in pool pg = do
  pool ← pool_id_in pool
  pg ← number_in 0 1023 pg
  Some (record { pool = pool; pg = pg })
