use Rattle.pgp_group.proofs.Common.{◌≡◌, ◌≤◌, List, ◌++◌, drop, take, ap, subst, sym, ◌∙◌, All, take-append-drop, All-drop, Report, epoch, incs, reports, AreCounted, AreLogsOf}
use Rattle.pgp_group.proofs.InboxLemmas.{unseen-is}
use Rattle.pgp_group.proofs.ReportsLemmas.{KeepsReports-heard}
use Rattle.pgp_group.proofs.reports.Reports.look.Goals as goal

pub returns-in-Ok-clause-ok : goal.returns-in-Ok-clause-ok
returns-in-Ok-clause-ok c = λ g here kept.
    let is : AreCounted g c.keep_counted.new.self = c.keep_counted.ensures g here kept in
    let seen = c.keep_counted.new.self.inbox.seen in
    let whole : take seen (reports g) ++ c.unseen.result.now ≡ reports g =
    ap (λ (l : List Report). take seen (reports g) ++ l) (unseen-is is.inbox_is c.unseen.ensures) ∙ take-append-drop seen (reports g) in
    subst (λ (l : List Report). AreLogsOf g l c.hear.new.self.of_members.items) whole (c.in-Ok.ensures.logs g (take seen (reports g)) here is.logs_are)

pub returns-in-Ok-clause-kept : goal.returns-in-Ok-clause-kept
returns-in-Ok-clause-kept c = λ g here kept.
    let is : AreCounted g c.keep_counted.new.self = c.keep_counted.ensures g here kept in
    let seen = c.keep_counted.new.self.inbox.seen in
    let unseen : c.unseen.result.now ≡ drop seen (reports g) = unseen-is is.inbox_is c.unseen.ensures in
    KeepsReports-heard g c.keep_counted.new.self _ is c.mark_seen.ensures (returns-in-Ok-clause-ok c g here kept)
    (λ settled. c.in-Ok.ensures.count g (epoch (incs g)) here
    (subst (All (λ (r : Report). r.stamp ≤ epoch (incs g))) (sym unseen)
    (All-drop (λ (r : Report). r.stamp ≤ epoch (incs g)) seen (reports g) (is.inbox_is.each_sent settled)))
    (is.each_counts settled))
