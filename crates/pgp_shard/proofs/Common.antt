-- The names that most proofs of this crate cite, passed on from one place. Declares nothing.
pub use Rattle.std.proofs.Common.{Bool, Bor, Err, IfOk, IfSome, List, None, Ok, OnErr, OnOk, Option, Result, Some, [], add-one, ap, append-nil, append_assoc, ap₂, arith, bit_and, bit_or, cond, drop, eq-eqb, false, get_or, if◌then◌else◌, inl, inr, is_none, is_some, length, length-append, map, min, nat_eq, nat_lt, not, option_map, refl, replicate, rules, set, slice_get, subst, suc, sym, take, true, w64, zero, zero-add, ℕ, ◌%◌, ◌&&◌, ◌*◌, ◌++◌, ◌+◌, ◌-◌, ◌/◌, ◌<◌, ◌^◌, ◌||◌, ◌∙◌, ◌∷◌, ◌≡◌, ◌≤◌, ◌⊎◌}
pub use Rattle.std.proofs.Math.Bool.{and-false, and-true, or-false, or-true}
pub use Rattle.std.proofs.Math.Seq.{drop-append_seam, map-set_same, take-append-add}
pub use Rattle.std.proofs.lemmas.Bool.{and_from, and_parts, and_right, cases_Bool, cases_eq, cases_lt, eqb-true, le-ltb, ltb-false, false_from_ne_true, not-false, not-true, or_cases, or_parts, true_from_ne_false, true≢false}
pub use Rattle.std.proofs.lemmas.Bool.Decides.{nat_tests}
pub use Rattle.std.proofs.lemmas.List.{drop-append-le, drop-map, get_or-map, get_or-set_other, get_or-set_same, get_or_default, length-map, length-set, length-take, map-append, map-set, take-append-drop, take-append-le, take-map, take-take, take_all, take_more_set}
pub use Rattle.std.proofs.lemmas.List.Elements.{All-get_or, All-head, All-push, All-set, All-tail, filter-append, filter_more}
pub use Rattle.std.proofs.lemmas.List.Folds.{list_any-append, list_any_more}
pub use Rattle.std.proofs.lemmas.Option.{get_or_from_slice_get, none-some, same_Some, slice_get-map, slice_get_read, slice_get_within}
pub use Rattle.std.proofs.lemmas.Result.{on_err_weaker, on_ok_weaker}
pub use Rattle.std.specs.Arc.{arc_value}
pub use Rattle.std.specs.List.{filter, list_any, range_with_len}
pub use Rattle.std.specs.Option.{option_copied, option_eq, option_map_or}
pub use Rattle.std.specs.Prelude.{alloc_error, slice_index}
pub use Rattle.std.specs.Vec.{with_item}
pub use Rattle.pgp_group.proofs.GroupLemmas.{IsGroupOf-other, infos-kept, infos-other, infos-same, names-kept, past-same, reports-kept, reports-other, reports-same}
pub use Rattle.pgp_group.proofs.GrowthLemmas.{has_group-grows, unmade, epochs_ascend}
pub use Rattle.pgp_group.proofs.ReachingLemmas.{left-unmoved, lies-as-before, reached-now, reaches-next, untouched-unmoved}
pub use Rattle.pgp_group.proofs.UntoldLemmas.{IsLeft, temp-same, unplaced}
pub use Rattle.pgp_group.proofs.ViewLemmas.{history_there, scratch_there}
pub use Rattle.pgp_group.specs.Entries.{inc_of, incs_of, infos_of, reports_of}
pub use Rattle.pgp_group.specs.GroupHistory.{EpochsAscend, group_facts, group_history, made_at, makes, primary_facts}
pub use Rattle.pgp_group.specs.GroupLog.{group_in, group_with}
pub use Rattle.pgp_group.specs.GroupOf.{IsGroupOf, IsSilent}
pub use Rattle.pgp_group.specs.Reaching.{reaching}
pub use Rattle.pgp_group.specs.Touched.{changed_devices, changes_pool, changes_temp, has_osd, has_to_do_with, is_touched, may_lie_on, may_move, moves_all, names, view_at, turned_devices}
pub use Rattle.pgp_group.specs.View.{scratch, view_of}
pub use Rattle.pgp_group.specs.declared.group.Group.{Group}
pub use Rattle.pgp_ids.specs.declared.entry.Entry.{Entry}
pub use Rattle.pgp_ids.specs.declared.incremental.DeviceEpoch.{DeviceEpoch}
pub use Rattle.pgp_ids.specs.declared.incremental.DeviceWeight.{DeviceWeight}
pub use Rattle.pgp_ids.specs.declared.incremental.Incremental.{Incremental}
pub use Rattle.pgp_ids.specs.declared.membership.Membership.{Membership}
pub use Rattle.pgp_ids.specs.declared.pg_id.PgId.{PgId}
pub use Rattle.pgp_ids.specs.declared.pool.PoolSizes.{PoolSizes}
pub use Rattle.pgp_ids.specs.declared.pool.PoolSpec.{PoolSpec}
pub use Rattle.pgp_ids.specs.declared.refusal.Refusal.{Refusal}
pub use Rattle.pgp_ids.specs.declared.report.Info.{Info}
pub use Rattle.pgp_ids.specs.declared.view.View.{View}
pub use Rattle.pgp_lists.proofs.Bools.{and3_parts, or3_parts, same_tests}
pub use Rattle.pgp_lists.proofs.Lists.{any-mapped, get-append, get-last, get-set_other, get-set_same, none-at, none-each, take-front}
pub use Rattle.pgp_lists.proofs.Options.{some-weaker, some_is}
pub use Rattle.pgp_lists.specs.Repeats.{has_repeat}
pub use Rattle.pgp_log.specs.Fits.{fits, is_close, is_closed}
pub use Rattle.pgp_map.specs.NumberSet.{has}
pub use Rattle.pgp_shard.specs.kept.Groups.{HasOneMore, AreAtPlaces, AreGroupsOf, AreOwnGroupsOf, CanAbsorb, FollowStill, HasOwn, HasStill, AreWorkedAt, IsKeptBeside, IsKeptIfOwn, IsOwnIfKept, IsStepping, KeepsAll, KeepsMarks, RenewsMarks, keeps, marks_of, owns, shard_with, worked_of}
pub use Rattle.pgp_shard.specs.kept.KeptGroup.{AreAllMarked, AreKeptOf, IsKeptOf, IsStep, IsViewOf, IsViewSince, IsWorkedOut, ids_of, is_newer, lacks_view, marks_in, newer_in, worked_count, worked_in}
pub use Rattle.pgp_shard.specs.kept.Rows.{AreRowsOf, IsChangesOf, IsRowOf, may_concern, may_place_group, temp_key}
pub use Rattle.pgp_log.specs.Log.{HasInc, IsFrontOf, epoch_of, is_legal}
pub use Rattle.pgp_log.specs.MapBefore.{IsMapBefore, makes_heavier, only_lightens}
pub use Rattle.pgp_shard.specs.kept.OsdFilter.{Covers, CoversStill, have_a_bit, may_meet}
pub use Rattle.pgp_log.specs.RawSets.{IsRawSet}
pub use Rattle.pgp_shard.specs.Shard.{AreMarked, HasReadFewer, HasReadSame, HasReadSome, HaveChanged, IsUnmarked, MarksOnlyTouched, SaysStill, Shard, WorkedGroup, WorksOutMarks, has_own, having_read, having_read_all, having_read_front, is_among, is_own, opening_shard, shard_of, without_group, worked_at}
pub use Rattle.pgp_log.specs.Touch.{changes_no_pool, changes_placement, changes_placements}
pub use Rattle.pgp_shard.specs.World.{Reply, Step, World, after, after_absorb, after_all, after_submit, front_of, replies, reply_to, submit_reply, view_reply}
pub use Rattle.pgp_shard.specs.World.Reply.{Absorbed, Asked, Submitted}
pub use Rattle.pgp_shard.specs.World.Step.{Absorb, Ask, Submit}
pub use Rattle.pgp_shard.specs.WorldRun.{HasReadPart, IsDone, IsFewer, IsTaken, IsWanting, MayReply, MayRun, done_at, done_of, is_want, taken_at, taken_of}
pub use Rattle.pgp_log.specs.declared.before.MapBefore.{MapBefore}
pub use Rattle.pgp_shard.specs.declared.groups.Groups.{Groups}
pub use Rattle.pgp_shard.specs.declared.kept_group.KeptGroup.{KeptGroup}
pub use Rattle.pgp_shard.specs.declared.osd_filter.OsdFilter.{OsdFilter}
pub use Rattle.pgp_shard.specs.declared.owner.Owner.{Owner}
pub use Rattle.pgp_shard.specs.declared.row.Row.{Row}
pub use Rattle.pgp_tables.proofs.Common.{same_group}
pub use Rattle.pgp_map.proofs.CheckedLemmas.{checked-has_group, checked-more}
pub use Rattle.pgp_map.specs.Checked.{are_checked}
pub use Rattle.pgp_map.specs.Devices.{device}
pub use Rattle.pgp_map.specs.Held.{HasGroup}
pub use Rattle.pgp_map.specs.Map.{epoch}
pub use Rattle.pgp_map.specs.MapFault.{map_fault, then_with}
pub use Rattle.pgp_map.specs.MapOf.{IsMapOf}
pub use Rattle.pgp_map.specs.Pools.{has_group, is_same_group, pool, temp}
pub use Rattle.pgp_map.specs.declared.map.OsdMap.{OsdMap}
pub use Rattle.pgp_sets.proofs.RawSetLemmas.{lighter-elsewhere, or3_false, raw_set-stays}
pub use Rattle.pgp_sets.specs.Sets.{may_place_elsewhere, members_from_up, membership, raw_places, raw_set, raw_set_of, switches_any, weighed, without_down}
