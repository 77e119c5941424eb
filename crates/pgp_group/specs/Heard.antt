-- Whom a placement group has heard since its current interval began (Ceph's developer documentation on peering; on
-- last_epoch_started).
use Rattle.std.specs.Prelude.{◌≡◌, ℕ, List, ◌++◌, ◌∷◌, Bool, false, ◌&&◌, nat_le, map, filter, fold, max, flat_map}
use Rattle.pgp_ids.specs.Member.{is_same_member}
use Rattle.pgp_ids.specs.declared.member.Member.{Member}
use Rattle.pgp_ids.specs.declared.log_entry.LogEntry.{LogEntry}
use Rattle.pgp_ids.specs.declared.report.Info.{Info}
pub use Rattle.pgp_info.specs.Heard.{has_member, last_of_each_member}
use Rattle.pgp_interval.specs.Runs.{current_first}
use Rattle.pgp_map.specs.Devices.{is_up, up_from}
use Rattle.pgp_group.specs.GroupLog.{GroupLog, incs, infos, reports}

-- the last epoch in which the group is known to have begun to serve: the greatest history_les of all its infos, those too
-- that don't count, and 0 without one
abbrev pub les : GroupLog → ℕ
les g = fold max 0 (map (λ info. info.history_les) (infos g))

-- a report of this member and stamp counts: it is of the current interval, and its device has been up since
abbrev pub is_counted : GroupLog → Member → ℕ → Bool
is_counted g member stamp =
    nat_le (current_first g.history) stamp
    && is_up (incs g) member.osd
    && nat_le (up_from (incs g) member.osd) stamp

-- the info counts
abbrev pub counts : GroupLog → Info → Bool
counts g info = is_counted g info.member info.stamp

-- the infos of the group that count, in the order in which they came
abbrev pub counted_infos : GroupLog → List Info
counted_infos g = filter (counts g) (infos g)

-- the last info of each member that has one which counts
abbrev pub heard : GroupLog → List Info
heard g = last_of_each_member (counted_infos g)

-- the log entries that a member reported in reports which count, in the order in which they came
abbrev pub reported : GroupLog → Member → List LogEntry
reported g member =
    flat_map (λ report. report.log)
    (filter (λ report. is_same_member report.member member && is_counted g report.member report.stamp) (reports g))

-- the info stands in the list, and none of its member comes after it
pub record IsLastOfMember (infos : List Info) (info : Info) : Type 0 where
  pub before : List Info
  pub after : List Info
  pub split : infos ≡ before ++ info ∷ after
  pub last : has_member info.member after ≡ false
