use Rattle.std.proofs.Common.{◌≡◌, List, ◌++◌, [], ◌∷◌, length, ap, ◌∙◌, subst, arith}
use Rattle.std.specs.List.{Contains}
use Rattle.pgp_prior.specs.declared.judged_interval.JudgedInterval.{JudgedInterval}
use Rattle.pgp_prior.specs.kept.Places.{places_of}
use Rattle.pgp_prior.proofs.BasisLemmas.{more, kept}
use Rattle.pgp_lists.proofs.Results.{on_err}
use Rattle.pgp_prior.proofs.index.PriorIndex.add_past.Goals as goal

pub returns-clause-ok : goal.returns-clause-ok
returns-clause-ok g c = λ b is agree.
    let enough = g.R.Recoverable.enough in
    let by_place = g.R.Recoverable.by_place in
    let index = c.args.self.now in
    let last = c.in_ok-kept.kept in
    let count : c.len-place.result ≡ length index.past.items = omega (arith, c.len-place.ensures, c.in_ok-reserve.ensures.len, index.past.ok.0) in
    more enough by_place b index is c.push_reserved.new.self c.add_interval.new.table c.in_ok-add_interval.ensures.kept last c.args.past c.in_ok-kept.ensures.past
    (◌∙◌ {A = List JudgedInterval} c.push_reserved.ensures.items (ap (λ (items : List JudgedInterval). items ++ last ∷ []) c.in_ok-reserve.ensures.items))
    (c.in_ok-kept.ensures.kept b.status (rw is.code_is agree))
    (λ member in'. subst (Contains (places_of c.add_interval.new.table member.osd)) count
    (c.in_ok-add_interval.ensures.added member (rw (c.by_place-by_place.ensures, c.in_ok-kept.ensures.past) in')))

pub returns-in_err-add_interval-clause-err : goal.returns-in_err-add_interval-clause-err
returns-in_err-add_interval-clause-err g c = on_err c.from_residual-in_err-add_interval.result _ (λ b is.
    kept g.R.Recoverable.enough g.R.Recoverable.by_place b c.args.self.now is c.reserve.new.self c.add_interval.new.table c.in_err-add_interval.ensures.kept c.in_ok-reserve.ensures.items)

pub returns-in_err-kept-clause-err : goal.returns-in_err-kept-clause-err
returns-in_err-kept-clause-err g c = on_err c.from_residual.result _ (λ b is. is)
