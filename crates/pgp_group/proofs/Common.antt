-- The names that most proofs cite, passed on from one place. Declares nothing.
pub use Rattle.std.proofs.Common.{Bool, List, None, Option, Some, [], ap, append-nil, append_assoc, ap₂, arith, cond, drop, eq-eqb, false, fold, get_or, if◌then◌else◌, inl, inr, is_none, is_some, length, length-append, map, max, nat_eq, nat_le, nat_lt, not, refl, rules, set, subst, suc, sym, take, true, zero, ℕ, ◌&&◌, ◌++◌, ◌+◌, ◌-◌, ◌<◌, ◌||◌, ◌∙◌, ◌∷◌, ◌≡◌, ◌≢◌, ◌≤◌, ◌⊎◌}
pub use Rattle.std.proofs.Math.Bool.{and-true, or-false, or-true, or_comm}
pub use Rattle.std.proofs.lemmas.Bool.{and_parts, and_right, cases_Bool, cases_lt, cases_order, eqb-true, false_from_ne_true, false≢true, or_parts, true≢false}
pub use Rattle.std.proofs.lemmas.Bool.Decides.{nat_tests}
pub use Rattle.std.proofs.lemmas.Cmp.{nat_cmp_total}
pub use Rattle.std.proofs.lemmas.List.{get_or_default, length-map, length_push, map-append, map_push, take-append-drop, take-append-le, take_all, take_more, with_items_is}
pub use Rattle.std.proofs.lemmas.List.Elements.{All-append, All-contains, All-contains_itself, All-drop, All-filter, All-head, All-nil, All-set, All-tail, All-take, All-weaker, filter-append, filter_map-append, filter_passes}
pub use Rattle.std.proofs.lemmas.List.Folds.{find-append, find-set, find_at, find_past, list_any-append, list_any_at, list_any_more, list_any_none}
pub use Rattle.std.proofs.lemmas.List.Kept.{AllPairs-cons, AllPairs-filter}
pub use Rattle.std.proofs.lemmas.List.Quantifiers.{position-Some}
pub use Rattle.std.proofs.lemmas.List.Sums.{fold-append}
pub use Rattle.std.proofs.lemmas.Option.{get_or_from_slice_get, same_Some, slice_get-get_or, slice_get_within}
pub use Rattle.std.proofs.lemmas.Result.{IfOk-weaker, on_err_weaker, on_ok_weaker}
pub use Rattle.std.specs.List.{All, Contains, cons_option, filter, filter_map, find, flat_map, insert, last_or, list_any, position, position_from, position_or_len, range_with_len, slice_get, slice_index_or, slice_set}
pub use Rattle.std.specs.Option.{option_and_then, option_copied, option_eq, option_map, option_map_or, option_or, unwrap_or}
pub use Rattle.std.specs.Ordering.{is_lt, nat_cmp, on, ordering_reverse}
pub use Rattle.std.specs.Prelude.{Err, IsTrue, Ok, Result, ◌↔◌}
pub use Rattle.std.specs.Result.{IsOk, OnOk, is_ok}
pub use Rattle.std.specs.Vec.{vec_capacity, vec_len}
pub use Rattle.pgp_code.specs.AnyCode.{enough_of, enough_of-mono, is_by_place}
pub use Rattle.pgp_code.specs.Pool.{code_of}
pub use Rattle.pgp_code.specs.declared.any.AnyCode.{AnyCode}
pub use Rattle.pgp_group.specs.kept.DeviceFacts.{AreOfMap, GivesEach, HasEachMember, allows_turn, has_noted, renoted, renoted_all, status_noted, status_up}
pub use Rattle.pgp_group.specs.Entries.{inc_of, incs_of, infos_of, report_of, reports_of}
pub use Rattle.pgp_group.specs.kept.Parts.{AreHeard, IsBestCopy}
pub use Rattle.pgp_group.specs.GroupHistory.{EpochsAscend, group_history, grown_with, history_of, made_at, makes, passed_over, primary_facts, state_at_epoch, state_with, states_from}
pub use Rattle.pgp_group.specs.GroupLog.{GroupLog, cleans, group_in, group_with, incs, infos, reports}
pub use Rattle.pgp_group.specs.GroupOf.{IsGroupOf, IsSilent, Keeps}
pub use Rattle.pgp_group.specs.Heard.{IsLastOfMember, counted_infos, has_member, heard, is_counted, last_of_each_member, les, reported}
pub use Rattle.pgp_group.specs.kept.KeptInfos.{TakesInfo, KeepsInfos}
pub use Rattle.pgp_group.specs.kept.KeptNames.{KeepsNames}
pub use Rattle.pgp_group.specs.kept.KeptPrior.{IsAbreast, IsReckoned, KeepsPrior, basis_of, basis_with}
pub use Rattle.pgp_group.specs.kept.KeptReports.{AreCounted, AreLogsOf, IsReportedBy, KeepsReports, counts_by, member_entries, is_of, member_log, reported_in}
pub use Rattle.pgp_group.specs.Later.{AreSentBy, IsAfter}
pub use Rattle.pgp_group.specs.Peering.{acting_members, best, has_whole_log, if_whole, is_peer, leader, others_heard, past, peer_missing, peer_states, peers, present_members, prior, up_members, whole_best}
pub use Rattle.pgp_group.specs.Present.{IsPresent}
pub use Rattle.pgp_group.specs.Reckoning.{IsAccountedFor, IsReckonedWith, IsRemembered, IsStillCurrent, Remembers, TakesNothingAway, acting_of, heard_or_lost}
pub use Rattle.pgp_group.specs.Touched.{changed_devices, changes_pool, changes_temp, has_osd, has_to_do_with, is_touched, may_lie_on, may_move, moves_all, names, view_at, turned_devices, was_member}
pub use Rattle.pgp_group.specs.Verdict.{IsFirstCause, verdict_holds, in_order, is_short, is_waiting, needs_up_thru, verdict_place, verdict}
pub use Rattle.pgp_group.specs.View.{scratch, view_of}
pub use Rattle.pgp_group.specs.declared.device_facts.DeviceFacts.{DeviceFacts}
pub use Rattle.pgp_group.specs.declared.group.Group.{Group}
pub use Rattle.pgp_group.specs.declared.infos.Infos.{Infos}
pub use Rattle.pgp_group.specs.declared.kept_prior.KeptPrior.{KeptPrior}
pub use Rattle.pgp_group.specs.declared.logs.CountedLog.{CountedLog}
pub use Rattle.pgp_group.specs.declared.named_devices.NamedDevices.{NamedDevices}
pub use Rattle.pgp_group.specs.declared.reports.Reports.{Reports}
pub use Rattle.pgp_ids.specs.Member.{is_before, is_same_member}
pub use Rattle.pgp_ids.specs.Osds.{first_osd, osd_count}
pub use Rattle.pgp_ids.specs.Past.{raised_at}
pub use Rattle.pgp_ids.specs.declared.entry.Entry.{Entry}
pub use Rattle.pgp_ids.specs.declared.history.EpochState.{EpochState}
pub use Rattle.pgp_ids.specs.declared.history.PrimaryFacts.{PrimaryFacts}
pub use Rattle.pgp_ids.specs.declared.incremental.DeviceEpoch.{DeviceEpoch}
pub use Rattle.pgp_ids.specs.declared.incremental.Incremental.{Incremental}
pub use Rattle.pgp_ids.specs.declared.log_entry.LogEntry.{LogEntry}
pub use Rattle.pgp_ids.specs.declared.member.Member.{Member}
pub use Rattle.pgp_ids.specs.declared.membership.Membership.{Membership}
pub use Rattle.pgp_ids.specs.declared.past.Past.{Past}
pub use Rattle.pgp_ids.specs.declared.peer.PeerMissing.{PeerMissing}
pub use Rattle.pgp_ids.specs.declared.pg_id.PgId.{PgId}
pub use Rattle.pgp_ids.specs.declared.pool.PoolSizes.{PoolSizes}
pub use Rattle.pgp_ids.specs.declared.pool.PoolSpec.{PoolSpec}
pub use Rattle.pgp_ids.specs.declared.report.Info.{Info}
pub use Rattle.pgp_ids.specs.declared.report.Report.{Report}
pub use Rattle.pgp_ids.specs.declared.verdict.Verdict.{Verdict}
pub use Rattle.pgp_ids.specs.declared.verdict.Verdict.TheVariants.{Down, Incomplete, NeedLog, NeedUpThru, NoPrimary, Serve, Short, Waiting}
pub use Rattle.pgp_info.proofs.BestLemmas.{IsBest-best_info, best_info-IsBest, best_info-none, distinct_without, none-best_info}
pub use Rattle.pgp_info.specs.Best.{HasDistinctMembers, best_info}
pub use Rattle.pgp_info.specs.Heard.{Heard, with_info, with_infos, without}
pub use Rattle.pgp_info.specs.Preference.{IsPreference, newest_first, oldest_first}
pub use Rattle.pgp_info.specs.declared.preference.Preference.{Preference}
pub use Rattle.pgp_interval.proofs.CleanLemmas.{past_intervals-more, past_intervals-same}
pub use Rattle.pgp_interval.proofs.Same.{eq-is_same, is_same-eq}
pub use Rattle.pgp_interval.proofs.GrownLemmas.{current_first-goes_on, current_first-over, last_place-grown, past_intervals-goes_on, past_intervals-over}
pub use Rattle.pgp_interval.specs.History.{History, begun, grown, last_place}
pub use Rattle.pgp_interval.specs.IntervalsOf.{IsIntervalsOf, Running}
pub use Rattle.pgp_interval.specs.Runs.{current_first, ending_at, past_intervals}
pub use Rattle.pgp_interval.specs.SameMembers.{is_same}
pub use Rattle.pgp_lists.proofs.Bools.{or_assoc}
pub use Rattle.pgp_lists.proofs.Last.{last_found, last_where-append, last_where-found, last_where-some}
pub use Rattle.pgp_lists.proofs.Lists.{flat_map-push}
pub use Rattle.pgp_lists.proofs.Members.{All-members, Contains-cases, Contains-first, Contains-here, Contains-later, Contains-nil, any-contains, append-contains, contains-any, contains-append, contains-filter, contains-flat_map, contains-map, filter-agree, filter-contains, find-none, find-some, flat_map-contains, map-contains, none-contains}
pub use Rattle.pgp_lists.proofs.Options.{if_none, if_some, map_some, none_is, some_is, some_mapped}
pub use Rattle.pgp_lists.proofs.Ordered.{IsAscending-ascending, IsAscending-with_item, ascending-contains, contains-ascending, nat_order}
pub use Rattle.pgp_lists.proofs.Pairs.{AllPairs-first, AllPairs-mapped, AllPairs-nil, AllPairs-rest}
pub use Rattle.pgp_lists.proofs.Searched.{put_new, put_there, searchable}
pub use Rattle.pgp_lists.proofs.Taken.{taken-along, taken-front, taken-induction, taken-last, taken-more}
pub use Rattle.pgp_lists.specs.Ordered.{IsAscending, ascending, with_item}
pub use Rattle.pgp_map.specs.Checked.{are_checked, is_faultless}
pub use Rattle.pgp_map.specs.Devices.{boots, destroys, device, exists, greatest_epoch, is_up, lost_at, takes_down, last_epoch_of, up_from, up_thru}
pub use Rattle.pgp_map.specs.Last.{last_where}
pub use Rattle.pgp_map.specs.Map.{epoch, up_to}
pub use Rattle.pgp_map.specs.MapFault.{has_already_up, has_epoch_gap, map_fault, then_with}
pub use Rattle.pgp_map.proofs.CheckedLemmas.{front-checked, last-checked}
pub use Rattle.pgp_map.specs.Pools.{has_group, is_same_group, pool, temp, with_sizes}
pub use Rattle.pgp_map.specs.declared.map.OsdMap.{OsdMap}
pub use Rattle.pgp_missing.specs.Kept.{IsLogOf, KeptLog}
pub use Rattle.pgp_missing.specs.Log.{by_number, is_whole, number_of}
pub use Rattle.pgp_missing.specs.Missing.{peer_state}
pub use Rattle.pgp_prior.proofs.BetterLemmas.{blocks-same, no_worse-relieves, not_down-relieved}
pub use Rattle.pgp_prior.specs.Better.{is_no_worse}
pub use Rattle.pgp_prior.specs.Blocks.{acting_where, blocks, has_down, is_down, is_lost, is_settled, matters, settled_slots}
pub use Rattle.pgp_prior.specs.Changes.{IsChange, is_no_better}
pub use Rattle.pgp_prior.specs.IndexOf.{Basis, IsIndexOf}
pub use Rattle.pgp_prior.specs.Members.{held_member, members_of, member_slots}
pub use Rattle.pgp_prior.specs.Prior.{is_group_down, prior_set}
pub use Rattle.pgp_prior.specs.declared.index.PriorIndex.{PriorIndex}
pub use Rattle.pgp_prior.specs.declared.prior_set.Prior.{Prior}
pub use Rattle.pgp_sets.specs.Sets.{are_up, may_place_elsewhere, members_with, membership, moves, pool_membership, raw_set, raw_set_of}
pub use Rattle.pgp_sets.specs.Status.{held_status, status, status_by}
pub use Rattle.pgp_sets.specs.declared.status.Status.{Status}
pub use Rattle.pgp_sets.specs.declared.status.Status.TheVariants.{Up}
