-- What is kept of the reports of log entries of a group while more come (this project's own choice).
use Rattle.std.specs.Prelude.{◌≡◌, ℕ, ◌≤◌, List, [], ◌∷◌, ◌++◌, Bool, true, false, ◌&&◌, nat_le, Option, take, filter, find, flat_map, All}
use Rattle.std.specs.Option.{option_map_or}
use Rattle.pgp_ids.specs.Member.{is_same_member}
use Rattle.pgp_ids.specs.declared.log_entry.LogEntry.{LogEntry}
use Rattle.pgp_ids.specs.declared.member.Member.{Member}
use Rattle.pgp_ids.specs.declared.report.Report.{Report}
use Rattle.pgp_map.specs.Map.{epoch}
use Rattle.pgp_missing.specs.Log.{by_number}
use Rattle.pgp_group.specs.GroupLog.{GroupLog, incs, reports}
use Rattle.pgp_group.specs.Heard.{is_counted}
use Rattle.pgp_group.specs.kept.InboxOf.{IsInboxOf}
use Rattle.pgp_group.specs.declared.logs.CountedLog.{CountedLog}
use Rattle.pgp_group.specs.declared.reports.Reports.{Reports}

-- the log is of this member
abbrev pub is_of : Member → CountedLog → Bool
is_of member log = is_same_member log.member member

-- the log of the member among these
abbrev pub member_log : Member → List CountedLog → Option CountedLog
member_log member logs = find (is_of member) logs

-- its entries; none, where there is no log of the member
abbrev pub member_entries : Member → List CountedLog → List LogEntry
member_entries member logs = option_map_or (λ log. log.log.entries) (member_log member logs) []

-- the reports by which the log was made count: the last of them does
abbrev pub counts_log : GroupLog → CountedLog → Bool
counts_log g log = is_counted g log.member log.stamp

-- the log counts, and its last report was sent in this epoch or before
abbrev pub counts_by : GroupLog → ℕ → CountedLog → Bool
counts_by g at log = counts_log g log && nat_le log.stamp at

-- the log entries that the member reported in those of these reports which count, in the order in which they came
abbrev pub reported_in : GroupLog → List Report → Member → List LogEntry
reported_in g told member =
    flat_map (λ report. report.log)
    (filter (λ report. is_same_member report.member member && is_counted g report.member report.stamp) told)

-- the log of each member has the last entry of each number, of those that it reported in these reports
abbrev pub AreLogsOf : GroupLog → List Report → List CountedLog → Type 0
AreLogsOf g told logs = (member : Member) → member_entries member logs ≡ by_number (reported_in g told member)

-- all reports are kept. Where each was sent in this epoch or before, those logs are kept of which the ones that count are
-- the logs by the reports that were looked at
pub record KeepsReports (g : GroupLog) (kept : Reports) : Type 0 where
  pub inbox_is : IsInboxOf (λ report. report.stamp) (reports g) (epoch (incs g)) kept.inbox
  pub logs_sent : kept.inbox.ahead ≡ false → All (λ log. log.stamp ≤ epoch (incs g)) kept.logs.of_members.items
  pub logs_are : kept.inbox.ahead ≡ false → AreLogsOf g (take kept.inbox.seen (reports g)) (filter (counts_log g) kept.logs.of_members.items)

-- the same, where each log that is kept counts
pub record AreCounted (g : GroupLog) (kept : Reports) : Type 0 where
  pub inbox_is : IsInboxOf (λ report. report.stamp) (reports g) (epoch (incs g)) kept.inbox
  pub each_counts : kept.inbox.ahead ≡ false → All (λ log. counts_by g (epoch (incs g)) log ≡ true) kept.logs.of_members.items
  pub logs_are : AreLogsOf g (take kept.inbox.seen (reports g)) kept.logs.of_members.items

-- the group with one report more, and no other map
pub record IsReportedBy (g : GroupLog) (report : Report) (after : GroupLog) : Type 0 where
  pub reports_are : reports after ≡ reports g ++ report ∷ []
  pub incs_are : incs after ≡ incs g
  pub history_is : after.history ≡ g.history
