use Rattle.std.proofs.Common.{ap, ◌∙◌}
use Rattle.pgp_interval.specs.IntervalsOf.{Running}
use Rattle.pgp_interval.proofs.intervals.Intervals.current.Goals as goal

pub returns-clause-first : goal.returns-clause-first
returns-clause-first g c = λ h cleans is. ap (λ (r : Running g.row.R.Denot). r.first) c.self.view_is ∙ is.first_is
