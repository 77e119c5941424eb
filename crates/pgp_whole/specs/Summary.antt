-- What the groups of a log say together: how many have which verdict, and for which devices they wait.
use Rattle.std.specs.Prelude.{ℕ, ◌-◌, ◌^◌, List, [], ◌∷◌, Bool, ◌||◌, not, min, nat_eq, nat_lt, map, filter, filter_map, flat_map, count_by, if◌then◌else◌}
use Rattle.std.specs.List.{range_with_len}
use Rattle.std.specs.Option.{option_map_or}
use Rattle.std.specs.Ordering.{flip_args, is_lt, nat_cmp, on, then_cmp}
use Rattle.std.specs.declared.cmp.Ordering.{Ordering}
use Rattle.std.specs.declared.cmp.Reverse.{Reverse}
use Rattle.pgp_ids.specs.declared.entry.Entry.{Entry}
use Rattle.pgp_ids.specs.declared.incremental.Incremental.{Incremental}
use Rattle.pgp_ids.specs.declared.pg_id.PgId.{PgId}
use Rattle.pgp_ids.specs.declared.verdict.Verdict.{Verdict}
use Rattle.pgp_ids.specs.declared.verdict.Verdict.TheVariants.{Down, Waiting}
use Rattle.pgp_lists.specs.Ordered.{ascending}
use Rattle.pgp_map.specs.Map.{epoch}
use Rattle.pgp_map.specs.Pools.{pool}
use Rattle.pgp_group.specs.Entries.{incs_of}
use Rattle.pgp_group.specs.GroupLog.{GroupLog, group_in}
use Rattle.pgp_group.specs.Heard.{has_member, heard}
use Rattle.pgp_group.specs.Peering.{prior}
use Rattle.pgp_group.specs.Verdict.{verdict_place, verdict}
use Rattle.pgp_reasons.specs.GroupWays.{brings_back}
use Rattle.pgp_reasons.specs.Smallest.{holds}
use Rattle.pgp_whole.specs.declared.devices.DeviceWaits.{DeviceWaits}
use Rattle.pgp_whole.specs.declared.summary.Summary.{Summary}

-- this many, as far as a number of the machine goes, which no count of groups comes near
abbrev pub counted : ℕ → ℕ
counted n = min n (2 ^ 64 - 1)

-- ---- the groups of a log

-- the group of this number in a pool
abbrev pub group_of : ℕ → ℕ → PgId
group_of id pg = record { pool = id; pg = pg }

-- how many groups a pool has by the map of these incrementals
abbrev pub pg_num_in : List Incremental → ℕ → ℕ
pg_num_in incs id = option_map_or (λ made. made.pg_num) (pool incs id) 0

-- its groups
abbrev pub groups_of_pool : List Incremental → ℕ → List PgId
groups_of_pool incs id = map (group_of id) (range_with_len 0 (pg_num_in incs id))

-- the numbers of all pools that there may be
unfoldable pub pool_numbers : List ℕ
pool_numbers = range_with_len 1 255

-- the groups of all pools
abbrev pub all_groups : List Incremental → List PgId
all_groups incs = flat_map (groups_of_pool incs) pool_numbers

-- the groups of a log's map, each with what the log tells of it
abbrev pub group_logs : List Entry → List GroupLog
group_logs log = filter_map (group_in log) (all_groups (incs_of log))

-- ---- their verdicts

-- the two are the same
abbrev pub is_verdict : Verdict → Verdict → Bool
is_verdict other verdict = nat_eq (verdict_place verdict) (verdict_place other)

-- this is the group's verdict
abbrev pub has_verdict : Verdict → GroupLog → Bool
has_verdict other g = is_verdict other (verdict g)

-- how many of the groups that are summed up have this verdict
abbrev pub verdict_count : List Verdict → Verdict → ℕ
verdict_count verdicts other = count_by (is_verdict other) verdicts

-- ---- the devices for which they wait

-- the devices that keep a group down
abbrev pub blockers : GroupLog → List ℕ
blockers g = if has_verdict Down g then (prior g).blocked_by else []

-- those of them each of which alone ends that, once it boots
abbrev pub freers : GroupLog → List ℕ
freers g = filter (λ osd. brings_back g (osd ∷ [])) (blockers g)

-- the devices from which a group has yet to hear, where it waits for that
abbrev pub unheard : GroupLog → List ℕ
unheard g =
    if has_verdict Waiting g then map (λ member. member.osd) (filter (λ member. not (has_member member (heard g))) (prior g).probe) else []

-- for how many of the groups the device is among those of the group
abbrev pub groups_with : (GroupLog → List ℕ) → List GroupLog → ℕ → ℕ
groups_with devices groups osd = counted (count_by (λ g. holds (devices g) osd) groups)

-- a number by which the greater stands first
abbrev pub down_from : ℕ → Reverse ℕ
down_from n = record { 0 = n }

-- how many of the groups the device frees alone, how many it blocks, and how many wait to hear from it
abbrev pub waits_of : List GroupLog → ℕ → DeviceWaits
waits_of groups osd =
    record {
      frees = down_from (groups_with freers groups osd);
      blocks = down_from (groups_with blockers groups osd);
      awaited = down_from (groups_with unheard groups osd);
      osd = osd;
    }

-- some group waits for the device
abbrev pub is_waited_for : DeviceWaits → Bool
is_waited_for device = nat_lt 0 device.blocks.0 || nat_lt 0 device.awaited.0

-- the device that frees more groups stands first; then the one that blocks more; then the one that more have yet to hear from; and
-- then the one of the lower number
abbrev pub greater_first : (DeviceWaits → Reverse ℕ) → DeviceWaits → DeviceWaits → Ordering
greater_first number = on (λ device. (number device).0) (flip_args nat_cmp)

abbrev pub device_cmp : DeviceWaits → DeviceWaits → Ordering
device_cmp =
    then_cmp (greater_first (λ device. device.frees))
    (then_cmp (greater_first (λ device. device.blocks)) (then_cmp (greater_first (λ device. device.awaited)) (on (λ device. device.osd) nat_cmp)))

abbrev pub stands_first : DeviceWaits → DeviceWaits → Bool
stands_first a b = is_lt (device_cmp a b)

-- the numbers of all devices that there may be
unfoldable pub device_numbers : List ℕ
device_numbers = range_with_len 0 4096

-- the devices for which groups wait
abbrev pub devices_of : (ℕ → DeviceWaits) → List DeviceWaits
devices_of waits = ascending stands_first (filter is_waited_for (map waits device_numbers))

-- ---- all of it

-- what the groups of a log say together
abbrev pub summary_of : List Entry → Summary
summary_of log =
    let groups = group_logs log in
    record { epoch = epoch (incs_of log); verdicts = map verdict groups; devices = devices_of (waits_of groups) }
