use Rattle.pgp_group.proofs.Common.{refl, sym, ◌∙◌}
use Rattle.pgp_group.proofs.ReportsLemmas.{AreCounted-judged}
use Rattle.pgp_group.proofs.reports.Reports.keep_counted.Goals as goal

pub returns-else-is_ahead : goal.returns-else-is_ahead
returns-else-is_ahead c = λ g here is.
    AreCounted-judged g c.args.self.now _ is (sym c.is_ahead.ensures ∙ c.if-is_ahead.false) refl (c.keep_counted.ensures g here)
