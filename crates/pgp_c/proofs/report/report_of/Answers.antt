use Rattle.std.proofs.Common.{◌≡◌, Err, inl, map, rules, sym, true, ◌∙◌}
use Rattle.std.proofs.lemmas.Option.{same_Some}
use Rattle.std.specs.List.{list_all}
use Rattle.pgp_c.specs.Ask.{group}
use Rattle.pgp_c.specs.Member.{member}
use Rattle.pgp_c.specs.Report.{IsReport, IsReportMade, is_log_entry, told_log_entry}
use Rattle.pgp_c.specs.declared.status.Status.TheVariants.{NoMemory}
use Rattle.pgp_c.proofs.ReportLemmas.{all-given, only-memory}
use Rattle.pgp_c.proofs.report.report_of.Goals as goal

pub returns-in_err-each_of : goal.returns-in_err-each_of
returns-in_err-each_of c =
    let all : list_all is_log_entry c.args.log.now ≡ true = search rules in
    let memory : c.in_err-each_of.field-0.0 ≡ NoMemory = only-memory c.args.log.now c.in_err-each_of.field-0.0 all c.in_err-each_of.ensures in
    let is : IsReport c.args.report.now c.args.log.now = record { of_group = search rules; of_member = search rules; some = search rules; few = search rules; entries = all } in
    let made : IsReportMade (Err c.in_err-each_of.field-0.0) c.args.report.now c.args.log.now = inl (is, memory) in
    search rules

pub returns : goal.returns
returns c =
    let all : list_all is_log_entry c.args.log.now ≡ true = search rules in
    let log : c.in_ok-each_of.field-0 ≡ map told_log_entry c.args.log.now = same_Some _ _ (sym c.in_ok-each_of.ensures ∙ all-given c.args.log.now all) in
    let pg : c.in_ok-pg.pg ≡ group c.args.report.now.pool c.args.report.now.pg = search rules in
    let from : c.in_ok-member.member ≡ member c.args.report.now.osd c.args.report.now.slot = search rules in
    let stamp : c.new.result ≡ c.args.report.now.stamp = search rules in (
      record { of_group = search rules; of_member = search rules; some = search rules; few = search rules; entries = all },
      λ i. record { pg = pg i; member = from i; stamp = stamp i; log = log i },
    )
