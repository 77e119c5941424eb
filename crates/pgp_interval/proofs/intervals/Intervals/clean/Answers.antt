use Rattle.std.proofs.Common.{◌≤◌, ◌<◌, [], ◌∷◌, ◌++◌, sym, ◌∙◌, ap, subst, arith}
use Rattle.std.proofs.lemmas.Bool.Decides.{nat_tests}
use Rattle.pgp_ids.specs.Past.{raised_at}
use Rattle.pgp_interval.specs.IntervalsOf.{Running, IsIntervalsOf}
use Rattle.pgp_interval.proofs.RaiseLemmas.{set-raised_at}
use Rattle.pgp_interval.proofs.CleanedLemmas.{in_order, cleaned_current, cleaned_past}
use Rattle.pgp_interval.proofs.intervals.Intervals.clean.Goals as goal

pub returns-then-le-clause-history : goal.returns-then-le-clause-history
returns-then-le-clause-history g c = λ h cleans is.
    let enough = g.R.Recoverable.enough in
    let by_place = g.R.Recoverable.by_place in
    let was = subst (λ (r : Running g.row.R.Denot). IsIntervalsOf enough by_place h cleans r × (c.args.epoch ≤ r.last)) (sym c.self.view_is) (is, c.requires) in
    let opened : c.self.inside.first ≤ c.args.epoch = grind (arith, nat_tests) in
    cleaned_current enough by_place cleans h _ was.0 c.args.epoch was.1 opened

pub returns-in_err-place-clause-history : goal.returns-in_err-place-clause-history
returns-in_err-place-clause-history g c = λ h cleans is.
    let enough = g.R.Recoverable.enough in
    let by_place = g.R.Recoverable.by_place in
    let was = subst (λ (r : Running g.row.R.Denot). IsIntervalsOf enough by_place h cleans r × (c.args.epoch ≤ r.last)) (sym c.self.view_is) (is, c.requires) in
    let early : c.args.epoch < c.self.inside.first = grind (arith, nat_tests) in
    let kept = rw c.as_slice.ensures.value at c.in_err-place.ensures.raised in
    let order = in_order enough by_place cleans h _ was.0 in
    subst (λ (r : Running g.row.R.Denot). IsIntervalsOf enough by_place h (cleans ++ c.args.epoch ∷ []) r) c.self.view_is
    (cleaned_past enough by_place cleans h _ was.0 c.args.epoch was.1 early c.self.inside.past.items (kept order))

pub returns-clause-history : goal.returns-clause-history
returns-clause-history g c = λ h cleans is.
    let enough = g.R.Recoverable.enough in
    let by_place = g.R.Recoverable.by_place in
    let was = subst (λ (r : Running g.row.R.Denot). IsIntervalsOf enough by_place h cleans r × (c.args.epoch ≤ r.last)) (sym c.self.view_is) (is, c.requires) in
    let early : c.args.epoch < c.self.inside.first = grind (arith, nat_tests) in
    let within = rw c.as_slice.ensures.value at c.in_ok-place.ensures.within in
    let rises = rw c.as_slice.ensures.value at c.in_ok-place.ensures.raised in
    let order = in_order enough by_place cleans h _ was.0 in
    let put = set-raised_at c.self.inside.past.items c.in_ok-place.place c.index_mut.result.now within c.index_mut.ensures.value in
    cleaned_past enough by_place cleans h _ was.0 c.args.epoch was.1 early _ (rises order ∙ sym put)

pub returns-clause-raised : goal.returns-clause-raised
returns-clause-raised g c =
    let within = rw c.as_slice.ensures.value at c.in_ok-place.ensures.within in
    set-raised_at c.self.inside.past.items c.in_ok-place.place c.index_mut.result.now within c.index_mut.ensures.value
    ∙ ap (λ (r : Running g.row.R.Denot). raised_at c.in_ok-place.place r.past) c.self.view_is

pub returns-clause-was : goal.returns-clause-was
returns-clause-was g c = rw (c.as_slice.ensures.value ∙ ap (λ (r : Running g.row.R.Denot). r.past) c.self.view_is) at c.in_ok-place.ensures.was
