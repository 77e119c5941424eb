use Rattle.pgp_group.proofs.Common.{ap, refl, ◌∙◌, on_ok_weaker, Report}
use Rattle.pgp_group.specs.kept.InboxOf.{with_arrival}
use Rattle.pgp_group.proofs.ReportsLemmas.{KeepsReports-new}
use Rattle.pgp_group.proofs.reports.Reports.push.Goals as goal

pub returns-clause-ok : goal.returns-clause-ok
returns-clause-ok c = on_ok_weaker c.push.result (λ taken g after here told is.
    KeepsReports-new g after c.args.report.now c.args.at c.args.self.now _ here told is
    (taken ∙ ap (λ (r : Report). with_arrival r c.args.at c.args.report.now.stamp c.args.self.now.inbox) c.in_ok-copy.ensures) refl) c.push.ensures.ok
