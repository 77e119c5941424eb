use Rattle.std.proofs.Common.{rules}
use Rattle.pgp_join.proofs.Same.{is_same_report}
use Rattle.pgp_join.proofs.SameLemmas.{report_Decides, lists_Decide}
use Rattle.pgp_join.proofs.reports.are_same_reports.Goals as goal

pub returns : goal.returns
returns c = lists_Decide is_same_report report_Decides c.args.other.now c.args.reports.now c.eq.result c.eq.ensures (λ a b. search rules)
