use Rattle.pgp_group.proofs.Common.{◌≡◌, List, [], ◌++◌, true, if◌then◌else◌, ap, ap₂, subst, sym, ◌∙◌, All-set, position-Some, on_ok_weaker, is_same_member, by_number, is_of, member_entries, CountedLog, KeptLog}
use Rattle.pgp_group.proofs.ReportsLemmas.{added, added-first}
use Rattle.pgp_group.proofs.PeerLemmas.{same_member}
use Rattle.pgp_group.proofs.logs.Logs.add.Goals as goal

pub returns-in-Some-clause-logs : goal.returns-in-Some-clause-logs
returns-in-Some-clause-logs c =
    let logs = c.args.self.now.of_members.items in
    let report = c.args.report.now in
    let old = c.index_mut.result.now in
    let new = c.add.new.self in
    on_ok_weaker c.add.result
    (λ add member reported is. added report.member member logs c.in-Some.place old new report.log reported
    (sym c.place_of.ensures ∙ c.in-Some.is) c.index_mut.ensures.value c.add.ensures.member add is)
    c.add.ensures.log

pub returns-in-Some-clause-each : goal.returns-in-Some-clause-each
returns-in-Some-clause-each c =
    let logs = c.args.self.now.of_members.items in
    let report = c.args.report.now in
    let old = c.index_mut.result.now in
    let new = c.add.new.self in
    let p = position-Some (is_of report.member) logs c.in-Some.place old (sym c.place_of.ensures ∙ c.in-Some.is) in
    let by : new.member ≡ report.member = c.add.ensures.member ∙ same_member old.member report.member (ap (is_of report.member) c.index_mut.ensures.value ∙ p.1) in
    on_ok_weaker c.add.result
    (λ _ test passes each. All-set (λ (log : CountedLog). test log.member log.stamp ≡ true) logs c.in-Some.place new (ap₂ test by c.add.ensures.stamp ∙ passes) each)
    c.add.ensures.log

pub returns-in_ok-push-in-None-clause-logs : goal.returns-in_ok-push-in-None-clause-logs
returns-in_ok-push-in-None-clause-logs c = λ member reported is.
    let logs = c.args.self.now.of_members.items in
    let report = c.args.report.now in
    let first = c.add-in-None.new.self in
    let of = c.in_ok-add-in-None.ensures.log [] (ap (λ (l : KeptLog). l.entries) c.new.ensures) in
    subst (λ (l : List CountedLog). member_entries member l ≡ by_number (reported ++ (if is_same_member report.member member then report.log else []))) (sym c.in_ok-push-in-None.ensures.items)
    (added-first report.member member logs first report.log reported (sym c.place_of.ensures ∙ c.in-None.is) c.add-in-None.ensures.member of is)
