-- Which reports of members are refused, and why. `incs` are the map incrementals that were taken before; they make the
-- map by which a report is judged. The order of the refusals is this project's own choice.
use Rattle.std.specs.Prelude.{ℕ, List, Bool, true, not, ◌&&◌, ◌||◌, nat_eq, nat_lt, Option, Some, None, if◌then◌else◌}
use Rattle.std.specs.List.{list_any}
use Rattle.std.specs.Option.{option_map_or}
use Rattle.pgp_ids.specs.Pool.{is_kind_by_place}
use Rattle.pgp_ids.specs.Version.{is_older, is_same_version}
use Rattle.pgp_ids.specs.declared.member.Member.{Member}
use Rattle.pgp_ids.specs.declared.incremental.Incremental.{Incremental}
use Rattle.pgp_ids.specs.declared.pg_id.PgId.{PgId}
use Rattle.pgp_ids.specs.declared.pool.PoolSpec.{PoolSpec}
use Rattle.pgp_ids.specs.declared.refusal.Refusal.{Refusal}
use Rattle.pgp_ids.specs.declared.refusal.Refusal.TheVariants as refusal
use Rattle.pgp_ids.specs.declared.report.Info.{Info}
use Rattle.pgp_ids.specs.declared.report.Report.{Report}
use Rattle.pgp_ids.specs.declared.version.Version.{Version}
use Rattle.pgp_map.specs.Devices.{exists}
use Rattle.pgp_map.specs.Map.{epoch}
use Rattle.pgp_map.specs.Pools.{pool, has_group}

-- the map has no such group
abbrev pub has_unknown_group : List Incremental → PgId → Bool
has_unknown_group incs pg = not (has_group incs pg)

-- a group of the pool can have a member in this slot: one below the size in an erasure or grouped pool, else slot 0
abbrev pub is_slot_of : ℕ → PoolSpec → Bool
is_slot_of slot pool = if is_kind_by_place pool.kind then nat_lt slot pool.size else nat_eq slot 0

-- the device is absent in the map, or the group can't have the slot
abbrev pub has_unknown_member : List Incremental → PgId → Member → Bool
has_unknown_member incs pg member =
    not (exists incs member.osd) || not (option_map_or (is_slot_of member.slot) (pool incs pg.pool) true)

-- the stamp is above the map's epoch
abbrev pub has_future_stamp : List Incremental → ℕ → Bool
has_future_stamp incs stamp = nat_lt (epoch incs) stamp

-- the version has one part 0 and the other not
abbrev pub is_half : Version → Bool
is_half version = not (nat_eq version.epoch 0) && nat_eq version.v 0 || nat_eq version.epoch 0 && not (nat_eq version.v 0)

-- the version is half 0, or of an epoch above the stamp
abbrev pub is_bad_version : ℕ → Version → Bool
is_bad_version stamp version = is_half version || nat_lt stamp version.epoch

-- the two versions can't be the ends of one log: the tail is above the last update, or the tail's number is, or the numbers
-- are equal and the versions aren't
abbrev pub are_bad_ends : Version → Version → Bool
are_bad_ends tail last =
    is_older last tail || nat_lt last.v tail.v || nat_eq tail.v last.v && not (is_same_version tail last)

-- a version of the info is bad, or an epoch is above the stamp, or its versions can't be the ends of one log
abbrev pub has_bad_info : Info → Bool
has_bad_info info =
    is_bad_version info.stamp info.last_update
    || is_bad_version info.stamp info.log_tail
    || nat_lt info.stamp info.les
    || nat_lt info.stamp info.history_les
    || nat_lt info.stamp info.last_epoch_clean
    || are_bad_ends info.log_tail info.last_update

-- both parts of the version are 0
abbrev pub is_zero : Version → Bool
is_zero version = nat_eq version.epoch 0 && nat_eq version.v 0

-- a version of the log entries is 0 or bad
abbrev pub has_bad_entries : Report → Bool
has_bad_entries report =
    list_any (λ entry. is_zero entry.version || is_bad_version report.stamp entry.version) report.log

-- the first refusal of a report of this group, member and stamp, in this order, where `bad` says whether its versions are
-- bad
abbrev pub report_fault : List Incremental → PgId → Member → ℕ → Bool → Option Refusal
report_fault incs pg member stamp bad =
    if has_unknown_group incs pg then Some refusal.UnknownGroup
    else (if has_unknown_member incs pg member then Some refusal.UnknownMember
    else (if has_future_stamp incs stamp then Some refusal.FutureStamp
    else (if bad then Some refusal.BadVersion else None)))

-- the first refusal of an info
abbrev pub info_fault : List Incremental → Info → Option Refusal
info_fault incs info = report_fault incs info.pg info.member info.stamp (has_bad_info info)

-- the first refusal of a report of log entries
abbrev pub entries_fault : List Incremental → Report → Option Refusal
entries_fault incs report = report_fault incs report.pg report.member report.stamp (has_bad_entries report)
