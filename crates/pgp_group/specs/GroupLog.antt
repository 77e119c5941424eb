-- A placement group with the log that tells of it.
use Rattle.std.specs.Prelude.{ℕ, List, Option, option_map, filter, map}
use Rattle.pgp_code.specs.declared.any.AnyCode.{AnyCode}
use Rattle.pgp_ids.specs.declared.entry.Entry.{Entry}
use Rattle.pgp_ids.specs.declared.incremental.Incremental.{Incremental}
use Rattle.pgp_ids.specs.declared.pg_id.PgId.{PgId}
use Rattle.pgp_ids.specs.declared.report.Info.{Info}
use Rattle.pgp_ids.specs.declared.report.Report.{Report}
use Rattle.pgp_interval.specs.History.{History}
use Rattle.pgp_map.specs.Pools.{is_same_group}
use Rattle.pgp_group.specs.Entries.{incs_of, infos_of, reports_of}
use Rattle.pgp_group.specs.GroupHistory.{group_history}

-- the log, the group, and the history that the log tells of the group
pub record GroupLog : Type 0 where
  pub log : List Entry
  pub pg : PgId
  pub history : History AnyCode

abbrev pub group_with : List Entry → PgId → History AnyCode → GroupLog
group_with log pg history = record { log = log; pg = pg; history = history }

-- the group in a log, where the last map has the group
abbrev pub group_in : List Entry → PgId → Option GroupLog
group_in log pg = option_map (group_with log pg) (group_history (incs_of log) pg)

-- the map incrementals of the log
abbrev pub incs : GroupLog → List Incremental
incs g = incs_of g.log

-- the infos of the group, whether they are counted or not
abbrev pub infos : GroupLog → List Info
infos g = filter (λ info. is_same_group info.pg g.pg) (infos_of g.log)

-- the epochs in which the group was clean, by what its infos say, whether they are counted or not; 0 stands for none
abbrev pub cleans : GroupLog → List ℕ
cleans g = map (λ info. info.last_epoch_clean) (infos g)

-- the reports of the group's log entries, whether they are counted or not
abbrev pub reports : GroupLog → List Report
reports g = filter (λ report. is_same_group report.pg g.pg) (reports_of g.log)
