-- The names that most proofs of this crate cite, passed on from one place. Declares nothing.
pub use Rattle.pgp_group.proofs.Common.{AnyCode, EpochsAscend, Bool, Contains, Entry, GroupLog, History, Incremental, Info, IsAfter, IsPresent, IsSilent, List, LogEntry, Member, Membership, None, Option, OsdMap, Past, PgId, PrimaryFacts, Report, Some, Verdict, [], ap, append_assoc, ap₂, are_checked, arith, begun, best, by_number, code_of, cond, counted_infos, current_first, drop, enough_of, epoch, false, filter, filter_map, find, flat_map, fold, get_or, group_history, group_in, group_with, grown, grown_with, has_group, has_member, heard, verdict_holds, if◌then◌else◌, inc_of, incs, incs_of, infos_of, inl, inr, is_by_place, is_counted, is_same, is_same_group, is_same_member, is_some, last_of_each_member, last_or, last_place, leader, length, les, list_any, map, map_fault, max, may_lie_on, may_move, membership, nat_cmp, nat_eq, nat_le, nat_lt, not, option_and_then, option_map, option_map_or, passed_over, past, past_intervals, peer_states, pool, pool_membership, present_members, primary_facts, prior, refl, report_of, reported, reports_of, rules, scratch, set, subst, suc, sym, take, then_with, true, view_of, whole_best, zero, ℕ, ◌&&◌, ◌++◌, ◌+◌, ◌<◌, ◌||◌, ◌∙◌, ◌∷◌, ◌≡◌, ◌≢◌, ◌≤◌}
pub use Rattle.pgp_group.proofs.Common.{All-contains, AllPairs-first, AllPairs-rest, Contains-cases, Contains-here, Contains-later, Contains-nil, IfOk-weaker, and_parts, any-contains, append-nil, cases_Bool, cases_lt, cases_order, contains-any, contains-filter, contains-map, current_first-goes_on, current_first-over, eq-is_same, filter-append, filter-contains, filter_map-append, find-some, fold-append, get_or_default, get_or_from_slice_get, if_some, is_same-eq, last_where-some, length-append, length-map, length_push, list_any-append, list_any_more, map-append, map-contains, map_some, nat_cmp_total, nat_tests, or-false, or-true, past_intervals-goes_on, past_intervals-over, same_Some, slice_get_within, take_all, true≢false, with_items_is, ◌-◌}
pub use Rattle.std.proofs.Common.{AllPairs, Bor, IfSome, reverse}
pub use Rattle.std.proofs.Math.Seq.{drop-cons, drop-length}
pub use Rattle.std.proofs.lemmas.Bool.{cases_eq}
pub use Rattle.std.proofs.lemmas.List.{drop_all, drop_more, get_or-map, get_or_append_left, get_or_push, map_more, reverse-append}
pub use Rattle.std.proofs.lemmas.List.FromFn.{get_or-range_with_len, length-range_with_len}
pub use Rattle.std.proofs.lemmas.Map.Lookups.{exact_unsigned}
pub use Rattle.std.proofs.lemmas.Option.{slice_get_read}
pub use Rattle.std.specs.Arc.{arc_value}
pub use Rattle.std.specs.HashMap.{HashMap}
pub use Rattle.std.specs.List.{range_with_len}
pub use Rattle.std.specs.Option.{IfNone}
pub use Rattle.std.specs.Prelude.{slice_get, ◌⊎◌}
pub use Rattle.std.specs.Vec.{with_items}
pub use Rattle.pgp_reasons.specs.Reported.{infos_in}
pub use Rattle.pgp_compact.specs.Compacted.{are_needed_in, clean_spans, compacted, current_span, is_clean_from, is_needed, is_in_span, may_be_heard, needs_info, needs_report, past_spans, replaces, replaces_number, reports_in, span_of, starts_as_late, tells_last_clean, tells_last_of, tells_last_start, wants_clean}
pub use Rattle.pgp_compact.specs.kept.Course.{IsCourse, IsNext, IsOnCourse, LiesAt, ended, may_leave}
pub use Rattle.pgp_compact.specs.kept.Courses.{AreCourses, EachIsCourse, HasReport, IsCourseIn, IsReportOf, IsSameButCourse, started_by}
pub use Rattle.pgp_compact.specs.kept.Greatest.{IsGreatestOf, reaches}
pub use Rattle.pgp_compact.specs.kept.Later.{AreLastCleans, IsLater, clean_in, is_same_number, is_same_opening, is_same_sender, write_number, numbers, opening_at, sender_of, sent, told_opening, written}
pub use Rattle.pgp_compact.specs.Needed.{are_needed, chosen, needed_of}
pub use Rattle.pgp_compact.specs.kept.Standing.{HasReached, opening_in, standing_at}
pub use Rattle.pgp_compact.specs.kept.Whole.{HasReadFront}
pub use Rattle.pgp_compact.specs.declared.course.Course.{Course}
pub use Rattle.pgp_compact.specs.declared.courses.Courses.{Courses}
pub use Rattle.pgp_compact.specs.declared.later.Number.{Number}
pub use Rattle.pgp_compact.specs.declared.later.Opening.{Opening}
pub use Rattle.pgp_compact.specs.declared.group_place.GroupPlace.{GroupPlace}
pub use Rattle.pgp_compact.specs.declared.course.Span.{Span}
pub use Rattle.pgp_compact.specs.declared.course.Standing.{Standing}
pub use Rattle.pgp_compact.specs.declared.whole.Whole.{Whole}
pub use Rattle.pgp_group.proofs.FirstLemmas.{along}
pub use Rattle.pgp_group.proofs.GroupLemmas.{infos-new, infos-other, infos-same, on_ok, reports-other, reports-same}
pub use Rattle.pgp_group.proofs.GrowthLemmas.{epoch-snoc, has_group-grows, history-begins-made, history-grows, history-last, later_epoch, unmade, epochs_ascend}
pub use Rattle.pgp_group.proofs.HistoryLemmas.{history-current}
pub use Rattle.pgp_group.proofs.InterleavingLemmas.{is_of}
pub use Rattle.pgp_group.proofs.LaterLemmas.{counts_by, fold_max-least, histories, is_after, log-in}
pub use Rattle.pgp_group.proofs.Lists.{contains-push, filter-both, filter-none, filter_map-from, last_or-any, none-narrower}
pub use Rattle.pgp_group.proofs.PeerLemmas.{contains-filter_map, same_member}
pub use Rattle.pgp_group.proofs.ReachingLemmas.{left-unmoved, lies-as-before}
pub use Rattle.pgp_group.proofs.UntoldLemmas.{temp-same}
pub use Rattle.pgp_group.specs.Entries.{info_of}
pub use Rattle.pgp_group.specs.GroupLog.{infos}
pub use Rattle.pgp_group.specs.Interleaving.{with_count}
pub use Rattle.pgp_group.specs.Peering.{info_from as info_by}
pub use Rattle.pgp_group.specs.Prefers.{prefers}
pub use Rattle.pgp_info.specs.Best.{best_info}
pub use Rattle.pgp_interval.proofs.IntervalLemmas.{lie_end_to_end, members_at-last_place}
pub use Rattle.pgp_interval.proofs.Openings.{opening_of-le, opening_of-opens, opening_of-stays}
pub use Rattle.pgp_interval.specs.Interval.{LieEndToEnd}
pub use Rattle.pgp_ids.specs.declared.history.EpochState.{EpochState}
pub use Rattle.pgp_interval.proofs.GrownLemmas.{grown-more}
pub use Rattle.pgp_interval.specs.History.{current_state, state_at, stepped}
pub use Rattle.pgp_interval.specs.ReadWrite.{can_write, is_recorded, was_clean}
pub use Rattle.pgp_interval.specs.Runs.{ending_at, ends_at, opening_of, opens_at, past_ending, past_ends, past_interval}
pub use Rattle.pgp_lists.proofs.Last.{last_or-append}
pub use Rattle.pgp_lists.proofs.Lists.{any-mapped, any-same, get-last, get-set_other, get-set_same}
pub use Rattle.pgp_lists.proofs.Members.{any-agree, map-agree}
pub use Rattle.pgp_lists.proofs.Ordered.{ascending-unique}
pub use Rattle.pgp_lists.proofs.Pairs.{AllPairs-weaker}
pub use Rattle.pgp_lists.specs.Last.{last_where}
pub use Rattle.pgp_group.proofs.ViewLemmas.{history_there}
pub use Rattle.pgp_lists.proofs.Options.{map_none, some_is}
pub use Rattle.pgp_lists.proofs.Ranges.{range-contains}
pub use Rattle.pgp_log.proofs.ComingLemmas.{comes-with_pool, has_group-same}
pub use Rattle.pgp_log.proofs.FitsLemmas.{nothing_ahead}
pub use Rattle.pgp_log.proofs.LogLemmas.{front-legal, legal-checked, legal-ascends, legal-induction, legal-last, legal-snoc}
pub use Rattle.pgp_log.proofs.SharedLemmas.{map-next, next-front, ok-two}
pub use Rattle.pgp_log.proofs.TakeLemmas.{epoch-inc, epoch-other, faultless-inc, faultless-tree, fits-faultless, incs-inc, incs-other, same-self}
pub use Rattle.pgp_log.specs.Touch.{stands_in}
pub use Rattle.pgp_log.proofs.TouchLemmas.{none-moved}
pub use Rattle.pgp_log.specs.Fits.{entry_fault, fits, is_close, is_closed}
pub use Rattle.pgp_log.specs.Log.{is_legal}
pub use Rattle.pgp_log.specs.MapBefore.{IsMapBefore}
pub use Rattle.pgp_log.specs.RawSets.{IsRawSet}
pub use Rattle.pgp_log.specs.ReportFault.{report_fault}
pub use Rattle.pgp_log.specs.Touch.{moves_none}
pub use Rattle.pgp_map.proofs.CheckedLemmas.{checked-has_group, checked-more, front-checked, last-checked}
pub use Rattle.pgp_map.specs.MapOf.{IsMapOf, Says}
pub use Rattle.pgp_missing.proofs.LastLemmas.{last_of_each-ordered}
pub use Rattle.pgp_missing.specs.Last.{put_in}
pub use Rattle.pgp_missing.specs.Log.{are_whole, has_number, within}
pub use Rattle.pgp_missing.specs.Missing.{peer_state_by}
pub use Rattle.pgp_sets.proofs.RawSetLemmas.{raw_set-stays, unmoved-unplaced}
pub use Rattle.pgp_tables.proofs.Common.{same_group}
