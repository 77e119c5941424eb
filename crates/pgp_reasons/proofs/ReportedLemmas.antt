-- What the entries of a log tell of a group, one after the other, is what the whole log tells.
use Rattle.std.proofs.Common.{◌≡◌, List, [], ◌∷◌, ◌++◌, ◌&&◌, refl, ap, inl, inr}
use Rattle.std.specs.List.{filter, filter_map, flat_map}
use Rattle.std.proofs.lemmas.Bool.{cases_Bool}
use Rattle.pgp_ids.specs.Member.{is_same_member}
use Rattle.pgp_ids.specs.declared.entry.Entry.{Entry}
use Rattle.pgp_ids.specs.declared.entry.Entry.TheVariants as entry
use Rattle.pgp_ids.specs.declared.log_entry.LogEntry.{LogEntry}
use Rattle.pgp_ids.specs.declared.member.Member.{Member}
use Rattle.pgp_ids.specs.declared.pg_id.PgId.{PgId}
use Rattle.pgp_ids.specs.declared.report.Info.{Info}
use Rattle.pgp_ids.specs.declared.report.Report.{Report}
use Rattle.pgp_map.specs.Pools.{is_same_group}
use Rattle.pgp_group.specs.Entries.{reports_of}
use Rattle.pgp_group.specs.GroupLog.{GroupLog}
use Rattle.pgp_group.specs.Heard.{is_counted, reported}
use Rattle.pgp_reasons.specs.Reported.{infos_in, info_in, entries_in}

pub reported-infos : (pg : PgId) (log : List Entry) → infos_in pg log ≡ filter_map (info_in pg) log
reported-infos pg [] = refl
reported-infos pg (entry.Inc inc ∷ log) = reported-infos pg log
reported-infos pg (entry.Info info ∷ log) = elim (cases_Bool (is_same_group info.pg pg)) [
  | inl same ↦ rw same (ap (λ (infos : List Info). info ∷ infos) (reported-infos pg log))
  | inr other ↦ rw other (reported-infos pg log)
]
reported-infos pg (entry.Entries report ∷ log) = reported-infos pg log
reported-infos pg (entry.Close ∷ log) = reported-infos pg log

-- the log entries of a member that these reports of a log tell
abbrev reported_of : GroupLog → Member → List Report → List LogEntry
reported_of g member reports =
    flat_map (λ report. report.log)
    (filter (λ report. is_same_member report.member member && is_counted g report.member report.stamp)
    (filter (λ report. is_same_group report.pg g.pg) reports))

reported-all : (g : GroupLog) (member : Member) (log : List Entry) → reported_of g member (reports_of log) ≡ flat_map (entries_in g member) log
reported-all g member [] = refl
reported-all g member (entry.Inc inc ∷ log) = reported-all g member log
reported-all g member (entry.Info info ∷ log) = reported-all g member log
reported-all g member (entry.Entries report ∷ log) =
    let rest : reported_of g member (reports_of log) ≡ flat_map (entries_in g member) log = reported-all g member log in
    elim (cases_Bool (is_same_group report.pg g.pg)) [
      | inl ours ↦ elim (cases_Bool (is_same_member report.member member && is_counted g report.member report.stamp)) [
        | inl counts ↦ rw (ours, counts) (ap (λ (more : List LogEntry). report.log ++ more) rest)
        | inr silent ↦ rw (ours, silent) rest
      ]
      | inr other ↦ rw other rest
    ]
reported-all g member (entry.Close ∷ log) = reported-all g member log

pub reported-entries : (g : GroupLog) (member : Member) → reported g member ≡ flat_map (entries_in g member) g.log
reported-entries g member = reported-all g member g.log
