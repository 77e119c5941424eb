-- The rows of groups, by which an incremental passes by those that it can't touch (this project's own choice).
use Rattle.std.specs.Prelude.{◌≡◌, ℕ, ◌+◌, ◌*◌, ◌%◌, nat_eq, List, length, slice_get, Bool, ◌&&◌, ◌||◌, Some, true, false, if◌then◌else◌}
use Rattle.std.specs.List.{list_any}
use Rattle.pgp_ids.specs.declared.incremental.Incremental.{Incremental}
use Rattle.pgp_map.specs.MapFault.{then_with}
use Rattle.pgp_ids.specs.declared.pg_id.PgId.{PgId}
use Rattle.pgp_map.specs.MapOf.{IsMapOf}
use Rattle.pgp_map.specs.NumberSet.{has}
use Rattle.pgp_map.specs.declared.map.OsdMap.{OsdMap}
use Rattle.pgp_group.specs.Entries.{incs_of}
use Rattle.pgp_group.specs.Touched.{changed_devices, changes_pool, changes_temp, has_to_do_with, may_lie_on, moves_all, turned_devices}
use Rattle.pgp_log.specs.MapBefore.{IsMapBefore, moves_some}
use Rattle.pgp_shard.specs.kept.OsdFilter.{Covers, may_meet}
use Rattle.pgp_log.specs.Touch.{changes_placements}
use Rattle.pgp_log.specs.declared.before.MapBefore.{MapBefore}
use Rattle.pgp_shard.specs.declared.kept_group.KeptGroup.{KeptGroup}
use Rattle.pgp_shard.specs.declared.osd_filter.OsdFilter.{OsdFilter}
use Rattle.pgp_shard.specs.declared.row.Changes.{Changes}
use Rattle.pgp_shard.specs.declared.row.Row.{Row}
use Rattle.pgp_shard.specs.kept.KeptGroup.{OfKeptLog, lacks_view}

-- the row is that of the group: it says whether the group is marked, and has the devices on which the group may lie by each log
-- of which the group is kept, and where the group isn't marked, those with which it has to do
pub record IsRowOf (row : Row) (kept : KeptGroup) : Type 0 where
  pub pg : row.pg ≡ kept.pg
  pub marked : row.marked ≡ lacks_view kept
  pub lies_on : OfKeptLog kept (λ log. (osd : ℕ) → may_lie_on (incs_of log) kept.pg osd ≡ true → Covers row.devices osd)
  pub knows : lacks_view kept ≡ false → OfKeptLog kept (λ log. (osd : ℕ) → has_to_do_with log kept.pg osd ≡ true → Covers row.devices osd)

-- each row is that of the group at its place
pub record AreRowsOf (rows : List Row) (groups : List KeptGroup) : Type 0 where
  pub long : length rows ≡ length groups
  pub each : (place : ℕ) (row : Row) (kept : KeptGroup) → slice_get rows place ≡ Some row → slice_get groups place ≡ Some kept → IsRowOf row kept

-- by which number a group is looked for among those of pg_temp lists: few groups of a map have the same one
abbrev pub temp_key : PgId → ℕ
temp_key pg = (pg.pool * 257 + pg.pg) % 4096

-- this is what the incremental changes, which leads from the one map to the other
pub record IsChangesOf (inc : Incremental) (before : MapBefore) (after : OsdMap) (changes : Changes) : Type 0 where
  pub places : changes.places ≡ changes_placements inc
  pub moves : (incs : List Incremental) → IsMapBefore incs inc before → IsMapOf (then_with incs inc) after → changes.moves ≡ moves_some incs inc
  pub temps : (pg : PgId) → changes_temp inc pg ≡ true → has changes.temps (temp_key pg) ≡ true
  pub turned : (osd : ℕ) → list_any (nat_eq osd) (turned_devices inc) ≡ true → Covers changes.movers osd
  pub weighed : (osd : ℕ) → list_any (λ given. nat_eq osd given.osd) inc.weight ≡ true → Covers changes.movers osd
  pub devices : (osd : ℕ) → list_any (nat_eq osd) (changed_devices inc) ≡ true → Covers changes.devices osd

-- the devices of the changes that concern a group: all, or where it is marked those that may move it
abbrev pub devices_for : Bool → Changes → OsdFilter
devices_for marked changes = if marked then changes.movers else changes.devices

-- whether the incremental may change where some group lies, whatever becomes of devices; for a group that is marked, otherwise than by
-- weights by which no device gets heavier
abbrev pub may_place : Bool → Changes → Bool
may_place marked changes = if marked then changes.moves else changes.places

-- the incremental, of which these are the changes, may change where the group lies, whatever becomes of devices
abbrev pub may_place_group : Changes → Incremental → PgId → Bool
may_place_group changes inc pg = moves_all inc || changes_pool inc pg.pool || (has changes.temps (temp_key pg) && changes_temp inc pg)

-- the incremental, of which these are the changes, may concern the group of the row
abbrev pub may_concern : Changes → Incremental → Row → Bool
may_concern changes inc row =
    (may_place row.marked changes && may_place_group changes inc row.pg) || may_meet row.devices (devices_for row.marked changes)
