-- What is kept of a group as one map follows another: where it lies, when its current interval began, and in which of its past
-- intervals clean epochs can matter (this project's own choice).
use Rattle.std.specs.Prelude.{◌≡◌, ℕ, ◌-◌, List, [], Bool, ◌||◌, true, false, Some, None}
use Rattle.std.specs.List.{list_any}
use Rattle.pgp_code.specs.AnyCode.{enough_of, is_by_place}
use Rattle.pgp_code.specs.declared.any.AnyCode.{AnyCode}
use Rattle.pgp_ids.specs.declared.incremental.Incremental.{Incremental}
use Rattle.pgp_ids.specs.declared.past.Past.{Past}
use Rattle.pgp_ids.specs.declared.pg_id.PgId.{PgId}
use Rattle.pgp_interval.specs.History.{History}
use Rattle.pgp_interval.specs.Runs.{current_first, ending_at}
use Rattle.pgp_map.specs.Checked.{are_checked}
use Rattle.pgp_map.specs.MapFault.{then_with}
use Rattle.pgp_map.specs.MapOf.{IsMapOf}
use Rattle.pgp_map.specs.Pools.{has_group, temp}
use Rattle.pgp_map.specs.declared.map.OsdMap.{OsdMap}
use Rattle.pgp_sets.specs.Sets.{membership, moves}
use Rattle.pgp_group.specs.GroupHistory.{group_history, primary_facts}
use Rattle.pgp_group.specs.Touched.{changes_temp, turned_devices}
use Rattle.pgp_log.specs.RawSets.{IsRawSet}
use Rattle.pgp_log.specs.Touch.{stands_in}
use Rattle.pgp_compact.specs.Compacted.{past_spans}
use Rattle.pgp_compact.specs.declared.course.Course.{Course}
use Rattle.pgp_compact.specs.declared.group_place.GroupPlace.{GroupPlace}
use Rattle.pgp_compact.specs.declared.course.Span.{Span}

-- ---- where the group lies

-- the map that these incrementals make puts the group there
pub record LiesAt (incs : List Incremental) (pg : PgId) (place : GroupPlace) : Type 0 where
  pub raw_is : IsRawSet incs pg place.raw
  pub temp_is : place.temp ≡ temp incs pg
  pub members_are : membership incs pg ≡ Some place.members

-- the group, which lies so, may lie elsewhere by the incremental
abbrev pub may_leave : GroupPlace → PgId → Incremental → Bool
may_leave place pg inc =
    moves inc pg.pool
    || changes_temp inc pg
    || list_any (stands_in place.raw place.temp) (turned_devices inc)

-- ---- the group's intervals

-- the map of these incrementals has the group, which lies so, whose current interval began in this epoch, and in these past
-- intervals of which clean epochs can matter, where it last began to serve in the epoch `les`
pub record IsOnCourse (incs : List Incremental) (pg : PgId) (les first : ℕ) (spans : List Span) (place : GroupPlace) : Type 0 where
  pub history : History AnyCode
  pub history_is : group_history incs pg ≡ Some history
  pub first_is : first ≡ current_first history
  pub spans_are : spans ≡ past_spans history les
  pub lies : LiesAt incs pg place

-- what is kept of the group is what these incrementals say of it
pub record IsCourse (incs : List Incremental) (course : Course) : Type 0 where
  pub absent : course.place ≡ None → has_group incs course.pg ≡ false
  pub unbegun : course.place ≡ None → course.spans.items ≡ []
  pub there : (place : GroupPlace) → course.place ≡ Some place → IsOnCourse incs course.pg course.les course.first course.spans.items place

-- the group's current interval as a past one, where the next incremental ends it
abbrev pub ended : List Incremental → Incremental → History AnyCode → Past
ended incs inc h = ending_at enough_of is_by_place [] h (inc.epoch - 1) (primary_facts incs h.current.acting_primary)

-- the incremental comes next, and this is the map after it
pub record IsNext (incs : List Incremental) (inc : Incremental) (after : OsdMap) : Type 0 where
  pub checked : are_checked (then_with incs inc) ≡ true
  pub after_is : IsMapOf (then_with incs inc) after

-- it does after some incrementals, of which this is kept
pub record CanGoOn (course : Course) (inc : Incremental) (after : OsdMap) : Type 0 where
  pub incs : List Incremental
  pub is : IsCourse incs course
  pub next : IsNext incs inc after
