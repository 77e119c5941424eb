-- What the code of a group keeps of the log that it was made by.
use Rattle.std.specs.Prelude.{◌≡◌, ◌≤◌, List, [], Some, true, filter}
use Rattle.pgp_code.specs.AnyCode.{enough_of, is_by_place}
use Rattle.pgp_code.specs.declared.any.AnyCode.{AnyCode}
use Rattle.pgp_ids.specs.declared.entry.Entry.{Entry}
use Rattle.pgp_ids.specs.declared.pg_id.PgId.{PgId}
use Rattle.pgp_ids.specs.declared.report.Info.{Info}
use Rattle.pgp_interval.specs.History.{History}
use Rattle.pgp_interval.specs.IntervalsOf.{IsIntervalsOf}
use Rattle.pgp_map.specs.Held.{HasGroup}
use Rattle.pgp_map.specs.Map.{epoch}
use Rattle.pgp_map.specs.Pools.{is_same_group}
use Rattle.pgp_map.specs.declared.map.OsdMap.{OsdMap}
use Rattle.pgp_group.specs.Entries.{incs_of, info_of, infos_of, reports_of}
use Rattle.pgp_group.specs.GroupHistory.{EpochsAscend, group_history}
use Rattle.pgp_group.specs.GroupLog.{GroupLog, cleans, group_with}
use Rattle.pgp_group.specs.kept.KeptInfos.{KeepsInfos}
use Rattle.pgp_group.specs.kept.KeptNames.{KeepsNames}
use Rattle.pgp_group.specs.kept.KeptPrior.{KeepsPrior}
use Rattle.pgp_group.specs.kept.KeptReports.{KeepsReports}
use Rattle.pgp_group.specs.declared.group.Group.{Group}

-- the group keeps the intervals of its history in the log; all that its members reported, in the order in which it came;
-- whom it has heard; the logs of members; the devices of which it speaks; and whom it had to hear when it was last asked
pub record Keeps (g : GroupLog) (group : Group) : Type 0 where
  pub pg_is : group.pg ≡ g.pg
  pub intervals_are : IsIntervalsOf enough_of is_by_place g.history (cleans g) group.intervals
  pub infos_are : KeepsInfos g group.infos
  pub reports_are : KeepsReports g group.reports
  pub named_are : KeepsNames g group.named
  pub prior_is : KeepsPrior g group.reckoned

-- the group stands for this group of the log, in which the epochs of the incrementals ascend
pub record IsGroupOf (log : List Entry) (pg : PgId) (group : Group) : Type 0 where
  pub history : History AnyCode
  pub history_is : group_history (incs_of log) pg ≡ Some history
  pub ascend : EpochsAscend (incs_of log)
  pub keeps : Keeps (group_with log pg history) group

-- none of the log's reports is of the group
pub record IsSilent (log : List Entry) (pg : PgId) : Type 0 where
  pub infos : filter (λ info. is_same_group info.pg pg) (infos_of log) ≡ []
  pub reports : filter (λ report. is_same_group report.pg pg) (reports_of log) ≡ []

-- where the entry is an info of the group, it names no epoch that is still to come as one in which the group was clean
abbrev pub TellsNothingAhead : List Entry → PgId → Entry → Type 0
TellsNothingAhead log pg new = (info : Info) → info_of new ≡ Some info → is_same_group info.pg pg ≡ true → info.last_epoch_clean ≤ epoch (incs_of log)

-- the map has the group
abbrev pub IsThere : Group → OsdMap → Type 0
IsThere group map = HasGroup map group.pg
