use Rattle.std.proofs.Common.{ap, ◌∙◌}
use Rattle.std.proofs.lemmas.List.{take_all}
use Rattle.pgp_interval.specs.IntervalsOf.{Running}
use Rattle.pgp_interval.proofs.intervals.Intervals.past.Goals as goal

pub returns : goal.returns
returns g c = λ h cleans is. c.loop-interval.invariant ∙ take_all _ _ c.loop-interval-test.false ∙ c.as_slice-interval-items.ensures.value ∙ ap (λ (r : Running g.row.R.Denot). r.past) c.self.view_is ∙ is.past_are
