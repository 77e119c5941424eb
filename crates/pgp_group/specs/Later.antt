-- A group of a log, and the same group once more of the log has come.
use Rattle.std.specs.Prelude.{◌≡◌, ℕ, ◌≤◌, List, ◌++◌, Some, true, All}
use Rattle.pgp_ids.specs.declared.entry.Entry.{Entry}
use Rattle.pgp_map.specs.Checked.{are_checked}
use Rattle.pgp_group.specs.Entries.{incs_of}
use Rattle.pgp_group.specs.GroupLog.{GroupLog, group_in, infos, reports}

-- the group after these entries, where each map incremental was checked when it came
pub record IsAfter (g : GroupLog) (later : List Entry) (after : GroupLog) : Type 0 where
  pub checked : are_checked (incs_of (g.log ++ later)) ≡ true
  pub before : group_in g.log g.pg ≡ Some g
  pub then_is : group_in (g.log ++ later) g.pg ≡ Some after

-- each info and each report of log entries of the group was sent in this epoch or before
pub record AreSentBy (epoch : ℕ) (g : GroupLog) : Type 0 where
  pub each_info : All (λ info. info.stamp ≤ epoch) (infos g)
  pub each_report : All (λ report. report.stamp ≤ epoch) (reports g)
