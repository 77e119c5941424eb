-- Small logs of a group of three copies and of a group of three shards, of a code of data shards or of one of parts.
use Rattle.std.specs.Prelude.{ℕ, List, [], ◌∷◌, ◌++◌, Option, Some, None, Bool, false, map, option_map, codes}
use Rattle.pgp_ids.specs.declared.entry.Entry.{Entry}
use Rattle.pgp_ids.specs.declared.entry.Entry.TheVariants as entry
use Rattle.pgp_ids.specs.declared.member.Member.{Member}
use Rattle.pgp_ids.specs.declared.incremental.Incremental.{Incremental}
use Rattle.pgp_ids.specs.declared.log_entry.Change.TheVariants.{Modify, Delete}
use Rattle.pgp_ids.specs.declared.log_entry.LogEntry.{LogEntry}
use Rattle.pgp_ids.specs.declared.membership.Membership.{Membership}
use Rattle.pgp_ids.specs.declared.past.Past.{Past}
use Rattle.pgp_ids.specs.declared.pg_id.PgId.{PgId}
use Rattle.pgp_ids.specs.declared.peer.MissingObject.{MissingObject}
use Rattle.pgp_ids.specs.declared.peer.PeerMissing.{PeerMissing}
use Rattle.pgp_ids.specs.declared.peer.PeerState.{PeerState}
use Rattle.pgp_ids.specs.declared.report.Info.{Info}
use Rattle.pgp_ids.specs.declared.verdict.Verdict.{Verdict}
use Rattle.pgp_ids.specs.declared.version.Version.{Version}
use Rattle.pgp_ids.specs.Examples.{empty_copy}
pub use Rattle.pgp_ids.specs.Examples.{at, in_slot}
use Rattle.pgp_map.specs.Examples.{empty_step, grouped, part_of, boot}
use Rattle.pgp_sets.specs.Examples.{of_device, copies_group, shards_group, stands_on, copies_on_three, shards_on_three, take_down, resize, lies_on}
use Rattle.pgp_group.specs.GroupLog.{group_in}
use Rattle.pgp_group.specs.Heard.{heard}
use Rattle.pgp_group.specs.View.{scratch}

-- ---- maps

-- the membership of the group of three copies, with pg_temp on three devices
abbrev pub on_three : ℕ → Membership
on_three min_size = lies_on 3 min_size (Some 0 ∷ []) (Some 0 ∷ Some 1 ∷ Some 2 ∷ [])

-- the membership of the group of three shards, with pg_temp on these devices
abbrev pub shards_on : ℕ → ℕ → ℕ → Membership
shards_on a b c = lies_on 3 2 (None ∷ None ∷ None ∷ []) (Some a ∷ Some b ∷ Some c ∷ [])

-- an incremental that tells through which epoch a device was up
abbrev pub known_up : ℕ → ℕ → ℕ → Incremental
known_up epoch osd thru = record (empty_step epoch) { up_thru = of_device osd thru ∷ [] }

-- an incremental that gives these devices up for lost, each at an epoch
abbrev pub give_up : ℕ → ℕ → ℕ → Incremental
give_up epoch osd lost_at = record (empty_step epoch) { lost = of_device osd lost_at ∷ [] }

-- a past interval
abbrev pub was : ℕ → ℕ → Membership → Bool → Past
was first last members rw = record { first = first; last = last; members = members; rw = rw }

-- a log of these incrementals alone
abbrev pub maps : List Incremental → List Entry
maps incs = map entry.Inc incs

-- The group of three shards served on the devices 0, 1 and 2, where it may have gone read-write. Two of them went down,
-- and pg_temp put the group on 0, 3 and 4.
abbrev pub two_shards_down : List Incremental
two_shards_down =
    shards_on_three
    ∷ known_up 2 0 1
    ∷ record (take_down 3 (1 ∷ 2 ∷ [])) { temp = stands_on shards_group (Some 0 ∷ Some 3 ∷ Some 4 ∷ []) }
    ∷ []

-- the same, where no map told that its primary was known to be up
abbrev pub two_shards_unrecorded : List Incremental
two_shards_unrecorded =
    shards_on_three
    ∷ empty_step 2
    ∷ record (take_down 3 (1 ∷ 2 ∷ [])) { temp = stands_on shards_group (Some 0 ∷ Some 3 ∷ Some 4 ∷ []) }
    ∷ []

-- the group of two parts, of which one has the slots 0 and 1 and the other slot 2, on the devices 0, 1 and 2
abbrev pub two_parts_on_three : Incremental
two_parts_on_three =
    record shards_on_three { pools = grouped 2 (part_of (0 ∷ 1 ∷ []) 1 ∷ part_of (2 ∷ []) 1 ∷ []) ∷ [] }

-- It served there, where it may have gone read-write. Then 1 and 2 went down, and pg_temp put it on 0, 3 and 4.
abbrev pub second_part_down : List Incremental
second_part_down =
    two_parts_on_three
    ∷ known_up 2 0 1
    ∷ record (take_down 3 (1 ∷ 2 ∷ [])) { temp = stands_on shards_group (Some 0 ∷ Some 3 ∷ Some 4 ∷ []) }
    ∷ []

-- The group of three copies served on the devices 0, 1 and 2, and no map told that its primary was known to be up. Then 1 went
-- down.
abbrev pub unrecorded : List Incremental
unrecorded = copies_on_three ∷ empty_step 2 ∷ take_down 3 (1 ∷ []) ∷ []

-- ---- reports

-- the info of a complete copy with no write, of a device in slot 0 of the group of three copies, sent at this epoch
abbrev pub copy : ℕ → ℕ → Info
copy osd stamp = record empty_copy { pg = copies_group; member = in_slot osd 0; stamp = stamp }

-- the same with the writes up to this one, sent at epoch 1
abbrev pub copy_up_to : ℕ → Version → Info
copy_up_to osd last = record (copy osd 1) { last_update = last }

-- the same of a shard
abbrev pub shard_up_to : ℕ → ℕ → Version → Info
shard_up_to osd slot last = record (copy_up_to osd last) { pg = shards_group; member = in_slot osd slot }

-- a shard with no write, sent at this epoch
abbrev pub shard : ℕ → ℕ → ℕ → Info
shard osd slot stamp = record (copy osd stamp) { pg = shards_group; member = in_slot osd slot }

-- a log of these infos alone
abbrev pub infos_sent : List Info → List Entry
infos_sent infos = map entry.Info infos

abbrev pub modify : ℕ → List ℕ → LogEntry
modify v object = record { version = at 1 v; change = Modify; object = object }

abbrev pub delete : ℕ → List ℕ → LogEntry
delete v object = record { version = at 1 v; change = Delete; object = object }

-- entries of the log of a member, sent at epoch 1
abbrev pub entries_report : PgId → Member → List LogEntry → Entry
entries_report pg member log = entry.Entries (record { pg = pg; member = member; stamp = 1; log = log })

-- entries of the log of the first copy
abbrev pub entries_of_first : List LogEntry → Entry
entries_of_first log = entries_report copies_group (in_slot 0 0) log

abbrev pub lacks : List ℕ → ℕ → MissingObject
lacks object v = record { object = object; version = at 1 v }

abbrev pub peer : Member → PeerState → PeerMissing
peer member state = record { member = member; state = state }

-- one write each of "a", "b" and "c"
abbrev pub three_writes : List LogEntry
three_writes = modify 1 (codes "a") ∷ modify 2 (codes "b") ∷ modify 3 (codes "c") ∷ []

-- three copies, of which the first has the writes up to [1,3] and tells these entries of its log, and the others none
abbrev pub with_entries : List LogEntry → List Entry
with_entries entries =
    maps (copies_on_three ∷ [])
    ++ infos_sent (copy_up_to 0 (at 1 3) ∷ copy 1 1 ∷ copy 2 1 ∷ [])
    ++ entries_of_first entries ∷ []

-- an info of each copy, sent before new sizes opened an interval
abbrev pub told_before : List Entry
told_before = maps (copies_on_three ∷ resize 2 3 1 ∷ []) ++ infos_sent (copy 0 1 ∷ copy 1 1 ∷ copy 2 1 ∷ [])

-- three equal copies, of which that of the acting primary isn't complete
abbrev pub primary_incomplete : List Entry
primary_incomplete = maps (copies_on_three ∷ []) ++ infos_sent (record (copy 0 1) { complete = false } ∷ copy 1 1 ∷ copy 2 1 ∷ [])

-- three shards, of which the second lacks the last write and tells the entry of the one before
abbrev pub differ_in_one_write : List Entry
differ_in_one_write =
    maps (shards_on_three ∷ [])
    ++ infos_sent (shard_up_to 0 0 (at 1 2) ∷ shard_up_to 1 1 (at 1 1) ∷ shard_up_to 2 2 (at 1 2) ∷ [])
    ++ entries_report shards_group (in_slot 1 1) (modify 1 (codes "a") ∷ []) ∷ []

-- one of the two shards that went down is up again
abbrev pub shard_back : List Entry
shard_back = maps (two_shards_down ++ boot 4 (1 ∷ []) ∷ [])

-- then each shard told of itself, and that one a second time since it came back
abbrev pub heard_since : List Entry
heard_since = shard_back ++ infos_sent (shard 0 0 3 ∷ shard 1 1 3 ∷ shard 3 1 3 ∷ shard 4 2 3 ∷ shard 1 1 4 ∷ [])

-- ---- what a log says of a group: its verdict, the devices that it waits for, its best copy, what the others lack, its past
-- intervals, the first epoch of the current one, and whom it has heard

abbrev pub verdict_in : List Entry → PgId → Option Verdict
verdict_in log pg = option_map (λ view. view.verdict) (scratch log pg)

abbrev pub blocked_in : List Entry → PgId → Option (List ℕ)
blocked_in log pg = option_map (λ view. view.blocked_by) (scratch log pg)

abbrev pub best_in : List Entry → PgId → Option (Option Member)
best_in log pg = option_map (λ view. view.best) (scratch log pg)

abbrev pub missing_in : List Entry → PgId → Option (List PeerMissing)
missing_in log pg = option_map (λ view. view.missing) (scratch log pg)

abbrev pub intervals_in : List Entry → PgId → Option (List Past)
intervals_in log pg = option_map (λ view. view.intervals) (scratch log pg)

abbrev pub first_in : List Entry → PgId → Option ℕ
first_in log pg = option_map (λ view. view.first) (scratch log pg)

abbrev pub heard_in : List Entry → PgId → Option (List Info)
heard_in log pg = option_map heard (group_in log pg)

-- ---- a group that comes to serve

-- Three copies; the first has two writes, the second one, the third none, and the first tells of its log.
abbrev pub before_serving : List Entry
before_serving =
    maps (copies_on_three ∷ [])
    ++ infos_sent (copy_up_to 0 (at 1 2) ∷ copy_up_to 1 (at 1 1) ∷ copy 2 1 ∷ [])
    ++ entries_of_first (modify 1 (codes "a") ∷ modify 2 (codes "b") ∷ []) ∷ []

-- then the map says that the first was up in epoch 1
abbrev pub until_serving : List Entry
until_serving = before_serving ++ entry.Inc (known_up 2 0 1) ∷ []

-- ---- groups that served and serve again

-- Both writes, in a log that begins after them, of the first group's copy on a device, sent at this epoch.
abbrev pub with_both : ℕ → ℕ → Info
with_both osd stamp = record (copy osd stamp) { last_update = at 1 2; log_tail = at 1 2 }

-- The group of three copies served, and then one of its copies became enough.
abbrev pub resized : List Entry
resized = until_serving ++ entry.Inc (resize 3 3 1) ∷ []

-- Each copy told of itself, and the map that the first was up in epoch 3.
abbrev pub serving_again : List Entry
serving_again = resized ++ infos_sent (with_both 0 3 ∷ with_both 1 3 ∷ with_both 2 3 ∷ []) ++ entry.Inc (known_up 4 0 3) ∷ []

-- The group of three shards served on the devices 0, 1 and 2.
abbrev pub shards_serving : List Entry
shards_serving = maps (shards_on_three ∷ []) ++ infos_sent (shard 0 0 1 ∷ shard 1 1 1 ∷ shard 2 2 1 ∷ []) ++ entry.Inc (known_up 2 0 1) ∷ []

-- All three went down, and pg_temp put the group on 3, 4 and 5.
abbrev pub all_down : List Entry
all_down =
    shards_serving
    ++ entry.Inc (record (take_down 3 (0 ∷ 1 ∷ 2 ∷ [])) { temp = stands_on shards_group (Some 3 ∷ Some 4 ∷ Some 5 ∷ []) }) ∷ []

-- Then they were destroyed, the others told of themselves, and the map that the first of them was up in epoch 3.
abbrev pub others_serve : List Entry
others_serve =
    all_down
    ++ entry.Inc (record (empty_step 4) { gone = 0 ∷ 1 ∷ 2 ∷ [] }) ∷ []
    ++ infos_sent (shard 3 0 4 ∷ shard 4 1 4 ∷ shard 5 2 4 ∷ []) ++ entry.Inc (known_up 5 3 3) ∷ []
