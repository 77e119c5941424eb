-- Logs that tell the same of a placement group, in whatever order its members speak (this project's own choice).
use Rattle.std.specs.Prelude.{◌≡◌, ℕ, List, filter}
use Rattle.pgp_ids.specs.Member.{is_same_member}
use Rattle.pgp_ids.specs.declared.entry.Entry.{Entry}
use Rattle.pgp_ids.specs.declared.member.Member.{Member}
use Rattle.pgp_ids.specs.declared.pg_id.PgId.{PgId}
use Rattle.pgp_ids.specs.declared.report.Info.{Info}
use Rattle.pgp_ids.specs.declared.report.Report.{Report}
use Rattle.pgp_ids.specs.declared.view.View.{View}
use Rattle.pgp_map.specs.Pools.{is_same_group}
use Rattle.pgp_group.specs.Entries.{incs_of, infos_of, reports_of}

-- the infos of the group that this member sent, in the order of the log
abbrev pub infos_from : List Entry → PgId → Member → List Info
infos_from log pg member =
    filter (λ info. is_same_member info.member member) (filter (λ info. is_same_group info.pg pg) (infos_of log))

-- the reports of the group's log entries that this member sent, in the order of the log
abbrev pub reports_from : List Entry → PgId → Member → List Report
reports_from log pg member =
    filter (λ report. is_same_member report.member member)
    (filter (λ report. is_same_group report.pg pg) (reports_of log))

-- both logs have the same incrementals, and of the group the same infos and the same reports of log entries of each member,
-- each in the same order
pub record TellTheSame (log other : List Entry) (pg : PgId) : Type 0 where
  pub incs : incs_of log ≡ incs_of other
  pub infos : (member : Member) → infos_from log pg member ≡ infos_from other pg member
  pub reports : (member : Member) → reports_from log pg member ≡ reports_from other pg member

-- the view with another count
abbrev pub with_count : ℕ → View → View
with_count count view = record view { count = count }
