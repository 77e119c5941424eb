-- The placement groups whose view an entry may change in more than count and epoch (this project's own choice).
use Rattle.std.specs.Prelude.{ℕ, List, length, ◌++◌, map, Bool, false, ◌||◌, nat_eq, nat_lt, is_some}
use Rattle.std.specs.List.{list_any}
use Rattle.std.specs.Option.{option_map_or}
use Rattle.pgp_ids.specs.declared.entry.Entry.{Entry}
use Rattle.pgp_ids.specs.declared.entry.Entry.TheVariants as entry
use Rattle.pgp_ids.specs.declared.incremental.Incremental.{Incremental}
use Rattle.pgp_ids.specs.declared.past.Past.{Past}
use Rattle.pgp_ids.specs.declared.pg_id.PgId.{PgId}
use Rattle.pgp_ids.specs.declared.view.View.{View}
use Rattle.pgp_map.specs.Pools.{pool, temp, is_same_group}
use Rattle.pgp_sets.specs.Sets.{raw_set, may_place_elsewhere}
pub use Rattle.pgp_sets.specs.Sets.{has_osd}
use Rattle.pgp_group.specs.Entries.{incs_of}
use Rattle.pgp_group.specs.GroupLog.{GroupLog, group_in, infos, reports}
use Rattle.pgp_group.specs.Peering.{past}

-- the device stands in the placement of the group
abbrev pub is_placed : List Incremental → PgId → ℕ → Bool
is_placed incs pg osd = option_map_or (λ pool. has_osd osd (raw_set incs pool pg)) (pool incs pg.pool) false

-- the device stands in up or acting of a past interval
abbrev pub was_member : ℕ → Past → Bool
was_member osd past = has_osd osd past.members.up || has_osd osd past.members.acting

-- the device stands in a past interval of the group, or sent a report of it
abbrev pub names : ℕ → GroupLog → Bool
names osd g =
    list_any (was_member osd) (past g)
    || list_any (λ info. nat_eq info.member.osd osd) (infos g)
    || list_any (λ report. nat_eq report.member.osd osd) (reports g)

-- the group has to do with the device: it stands in the placement, in pg_temp, in a past interval, or sent a report
abbrev pub has_to_do_with : List Entry → PgId → ℕ → Bool
has_to_do_with log pg osd =
    is_placed (incs_of log) pg osd
    || has_osd osd (temp (incs_of log) pg)
    || option_map_or (names osd) (group_in log pg) false

-- the devices whose state the incremental changes
abbrev pub changed_devices : Incremental → List ℕ
changed_devices inc =
    inc.up ++ inc.down ++ inc.gone ++ map (λ told. told.osd) inc.up_thru ++ map (λ told. told.osd) inc.lost

-- the incremental changes placements at large: it has weights or a tree
abbrev pub moves_all : Incremental → Bool
moves_all inc = nat_lt 0 (length inc.weight) || is_some inc.crush

-- the incremental makes the group's pool, or changes its sizes
abbrev pub changes_pool : Incremental → ℕ → Bool
changes_pool inc id =
    list_any (λ made. nat_eq made.id id) inc.pools || list_any (λ sizes. nat_eq sizes.pool id) inc.sizes

-- the incremental gives the group a pg_temp list, or takes it away
abbrev pub changes_temp : Incremental → PgId → Bool
changes_temp inc pg = list_any (λ given. is_same_group given.pg pg) inc.temp

-- the devices that the incremental boots, takes down or destroys
abbrev pub turned_devices : Incremental → List ℕ
turned_devices inc = inc.up ++ inc.down ++ inc.gone

-- the group lies on the device where that is up, or may by pg_temp
abbrev pub may_lie_on : List Incremental → PgId → ℕ → Bool
may_lie_on incs pg osd = is_placed incs pg osd || has_osd osd (temp incs pg)

-- the group may lie elsewhere by the incremental than by the map that these make
abbrev pub may_move : List Incremental → Incremental → PgId → Bool
may_move incs inc pg =
    may_place_elsewhere incs inc pg
    || changes_pool inc pg.pool
    || changes_temp inc pg
    || list_any (may_lie_on incs pg) (turned_devices inc)

-- the entry touches the group, where the log is what was there before
abbrev pub is_touched : List Entry → Entry → PgId → Bool
is_touched log (entry.Inc inc) pg =
    moves_all inc
    || changes_pool inc pg.pool
    || changes_temp inc pg
    || list_any (has_to_do_with log pg) (changed_devices inc)
is_touched log (entry.Info info) pg = is_same_group info.pg pg
is_touched log (entry.Entries report) pg = is_same_group report.pg pg
is_touched log entry.Close pg = false

-- the view with another count and epoch
abbrev pub view_at : ℕ → ℕ → View → View
view_at count epoch view = record view { count = count; epoch = epoch }
