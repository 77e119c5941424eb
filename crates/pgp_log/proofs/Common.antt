-- The names that most proofs of this crate cite, passed on from one place. Declares nothing.
pub use Rattle.std.proofs.Common.{Bool, Err, IfSome, List, None, Ok, OnErr, OnOk, Option, Result, Some, [], ap, append-nil, append_assoc, ap₂, arith, cond, drop, eq-eqb, false, get_or, if◌then◌else◌, inl, inr, is_none, is_some, length, length-append, map, nat_eq, nat_le, nat_lt, not, option_map, refl, rules, slice_get, subst, sym, take, true, ℕ, ◌++◌, ◌+◌, ◌<◌, ◌||◌, ◌∙◌, ◌∷◌, ◌≡◌, ◌≢◌, ◌≤◌, ◌⊎◌}
pub use Rattle.std.proofs.Math.Bool.{or-false}
pub use Rattle.std.proofs.lemmas.Bool.{and_parts, cases_Bool, eqb-true, false_from_ne_true, not-false, not-true, or_parts, true_from_ne_false, true≢false}
pub use Rattle.std.proofs.lemmas.Bool.Decides.{leb_tells, nat_tests}
pub use Rattle.std.proofs.lemmas.List.{map-append, map_more, take-append-drop, take-append-le, take_all}
pub use Rattle.std.proofs.lemmas.List.Elements.{filter_map-append}
pub use Rattle.std.proofs.lemmas.List.Folds.{list_any-append}
pub use Rattle.std.proofs.lemmas.Option.{same_Some, slice_get-map, slice_get_read}
pub use Rattle.std.specs.Arc.{arc_value}
pub use Rattle.std.specs.List.{Contains, flat_map, list_any}
pub use Rattle.std.specs.Option.{option_map_or, option_or}
pub use Rattle.std.specs.Prelude.{◌==◌}
pub use Rattle.pgp_group.proofs.GroupLemmas.{infos-other, infos-same, reports-other, reports-same}
pub use Rattle.pgp_group.proofs.GrowthLemmas.{epoch-snoc, has_group-grows, history-last, made_at-made, later_epoch, told-stays, epochs_ascend}
pub use Rattle.pgp_group.proofs.LaterLemmas.{is_after, log-in}
pub use Rattle.pgp_group.proofs.Lists.{none-append, none-narrower}
pub use Rattle.pgp_group.proofs.ReachingLemmas.{untouched-unmoved}
pub use Rattle.pgp_group.proofs.UntoldLemmas.{facts-stay, unplaced}
pub use Rattle.pgp_group.specs.Entries.{inc_of, incs_of}
pub use Rattle.pgp_group.specs.GroupHistory.{EpochsAscend, group_history, made_at, makes, primary_facts}
pub use Rattle.pgp_group.specs.GroupLog.{group_in, group_with}
pub use Rattle.pgp_group.specs.GroupOf.{IsGroupOf, IsSilent, TellsNothingAhead}
pub use Rattle.pgp_group.specs.Reckoning.{IsRemembered, TakesNothingAway, WentReadWrite}
pub use Rattle.pgp_group.specs.Touched.{changed_devices, changes_pool, changes_temp, is_touched, may_lie_on, may_move, moves_all, turned_devices}
pub use Rattle.pgp_group.specs.View.{view_of}
pub use Rattle.pgp_group.specs.declared.group.Group.{Group}
pub use Rattle.pgp_ids.specs.declared.entry.Entry.{Entry}
pub use Rattle.pgp_ids.specs.declared.incremental.DeviceEpoch.{DeviceEpoch}
pub use Rattle.pgp_ids.specs.declared.incremental.DeviceWeight.{DeviceWeight}
pub use Rattle.pgp_ids.specs.declared.incremental.Incremental.{Incremental}
pub use Rattle.pgp_ids.specs.declared.membership.Membership.{Membership}
pub use Rattle.pgp_ids.specs.declared.pg_id.PgId.{PgId}
pub use Rattle.pgp_ids.specs.declared.pool.PoolSizes.{PoolSizes}
pub use Rattle.pgp_ids.specs.declared.pool.PoolSpec.{PoolSpec}
pub use Rattle.pgp_ids.specs.declared.refusal.Refusal.{Refusal}
pub use Rattle.pgp_ids.specs.declared.report.Info.{Info}
pub use Rattle.pgp_ids.specs.declared.view.View.{View}
pub use Rattle.pgp_lists.proofs.Bools.{and3_parts}
pub use Rattle.pgp_lists.proofs.Lists.{any-mapped, get-append}
pub use Rattle.pgp_lists.proofs.Options.{if_none, map_some, none_is, some-weaker, some_mapped}
pub use Rattle.pgp_log.specs.Fits.{entry_fault, fits, full_fault, is_close, is_closed}
pub use Rattle.pgp_log.specs.Log.{EndsWithClose, HasInc, epoch_of, is_accepted, is_legal, is_accepted_at}
pub use Rattle.pgp_log.specs.MapBefore.{IsMapBefore, makes_heavier, renamed_devices, with_facts}
pub use Rattle.pgp_log.specs.RawSets.{AreRawSets, IsRawSet, moves_any}
pub use Rattle.pgp_log.specs.ReportFault.{has_bad_info, has_future_stamp, has_unknown_group, has_unknown_member, info_fault, report_fault}
pub use Rattle.pgp_log.specs.Touch.{changes_no_pool, changes_nothing, changes_placements, moves_none, tells_nothing, turns_none}
pub use Rattle.pgp_log.specs.declared.before.DeviceFacts.{DeviceFacts}
pub use Rattle.pgp_log.specs.declared.before.MapBefore.{MapBefore}
pub use Rattle.pgp_tables.proofs.Common.{same_group}
pub use Rattle.pgp_map.proofs.CheckedLemmas.{checked-has_group, checked-more, pools-in_range}
pub use Rattle.pgp_map.specs.Checked.{are_checked}
pub use Rattle.pgp_map.specs.Devices.{boots}
pub use Rattle.pgp_map.specs.FaultNumber.{refusal_of, tree_refusal}
pub use Rattle.pgp_map.specs.Held.{HasGroup}
pub use Rattle.pgp_map.specs.Map.{epoch}
pub use Rattle.pgp_map.specs.MapFault.{given_fault, is_from_one_to, map_fault, then_with}
pub use Rattle.pgp_map.specs.MapOf.{IsMapOf, Says}
pub use Rattle.pgp_map.specs.Pools.{has_group, is_same_group, pool, temp, with_sizes}
pub use Rattle.pgp_map.specs.declared.fault.MapFault.{MapFault}
pub use Rattle.pgp_map.specs.declared.map.OsdMap.{OsdMap}
pub use Rattle.pgp_sets.proofs.RawSetLemmas.{raw_set-stays, unmoved-unplaced}
pub use Rattle.pgp_sets.specs.Sets.{may_place_elsewhere, members_from_up, membership, moves, pool_membership, raw_set, weighed, without_down}
