use Rattle.std.proofs.Common.{◌≡◌, ◌<◌, length, Some, slice_get, ap, sym, ◌∙◌, arith}
use Rattle.std.specs.List.{Contains}
use Rattle.std.specs.Vec.{with_item}
use Rattle.std.proofs.lemmas.List.Elements.{All-contains, All-contains_itself, All-set, All-weaker}
use Rattle.std.proofs.lemmas.Option.{slice_get-get_or}
use Rattle.pgp_prior.specs.kept.JudgedInterval.{IsKept}
use Rattle.pgp_prior.proofs.BasisLemmas.{raised}
use Rattle.pgp_prior.proofs.RaisedLemmas.{raised_at-beyond, raised_at-set}
use Rattle.pgp_prior.proofs.WayLemmas.{at-contains}
use Rattle.pgp_prior.proofs.index.PriorIndex.raise.Goals as goal

pub returns-then-place-len : goal.returns-then-place-len
returns-then-place-len g c = λ b is.
    let index = c.args.self.now in
    let past = index.past.items in
    let place = c.args.place in
    let found = c.index_mut.result.now in
    let within : place < length past = omega (arith, c.if-place-len.true, c.len.ensures, index.past.ok.0) in
    let there : slice_get past place ≡ Some found = slice_get-get_or past place found within ∙ ap Some (sym c.index_mut.ensures.value) in
    raised g.R.Recoverable.enough g.R.Recoverable.by_place b index is place (with_item index.past place c.raise.new.self)
    (raised_at-set place past found c.raise.new.self there c.raise.ensures.past)
    (λ status each kept in'.
    let is_kept = IsKept (g.R.Recoverable.enough index.code) (g.R.Recoverable.by_place index.code) status index.les in
    let now = c.raise.ensures.kept status (each found (at-contains past place found there)) in
    All-contains is_kept _ kept (All-set is_kept past place c.raise.new.self now (All-weaker (Contains past) is_kept each past (All-contains_itself past))) in')

pub returns-else-place-len : goal.returns-else-place-len
returns-else-place-len g c = λ b is.
    let index = c.args.self.now in
    raised g.R.Recoverable.enough g.R.Recoverable.by_place b index is c.args.place index.past
    (raised_at-beyond c.args.place index.past.items (omega (arith, c.if-place-len.false, c.len.ensures, index.past.ok.0))) (λ status each. each)
