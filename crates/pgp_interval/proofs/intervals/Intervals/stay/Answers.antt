use Rattle.std.proofs.Common.{◌≡◌, ◌+◌, length, sym, subst}
use Rattle.pgp_interval.specs.IntervalsOf.{Running, IsIntervalsOf}
use Rattle.pgp_interval.proofs.RunningLemmas.{stays_on}
use Rattle.pgp_interval.proofs.intervals.Intervals.stay.Goals as goal

pub returns-clause-stays : goal.returns-clause-stays
returns-clause-stays g c = λ h cleans told is here.
    let enough = g.R.Recoverable.enough in
    let by_place = g.R.Recoverable.by_place in
    let was = subst (λ (r : Running g.row.R.Denot). IsIntervalsOf enough by_place h cleans r × (c.args.to ≡ r.last + length told)) (sym c.self.view_is) (is, here) in
    stays_on enough by_place cleans h _ was.0 told c.args.to was.1
