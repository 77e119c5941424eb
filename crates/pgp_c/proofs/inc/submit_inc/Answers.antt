use Rattle.std.proofs.Common.{ap, inl, subst, sym, ◌∙◌}
use Rattle.pgp_c.specs.Each.{IsWhy}
use Rattle.pgp_c.specs.Inc.{SubmitsGiven, given_inc}
use Rattle.pgp_c.proofs.IncLemmas.{none-told}
use Rattle.pgp_c.proofs.inc.submit_inc.Goals as goal

pub returns-in-Ok : goal.returns-in-Ok
returns-in-Ok c =
    let told = ap (λ format. given_inc format c.args.given.now) (sym c.format.ensures) ∙ c.in-Ok.ensures in
    subst (λ inc. SubmitsGiven inc c.args.session.now c.tell.new.session c.tell.result) (sym told) (inl c.tell.ensures)

pub returns-in-Err : goal.returns-in-Err
returns-in-Err c =
    let inc = given_inc c.args.session.now.format c.args.given.now in
    let why = subst (λ format. IsWhy c.in-Err.status (given_inc format c.args.given.now)) c.format.ensures c.in-Err.ensures in
    subst (SubmitsGiven inc c.args.session.now c.args.session.now) (sym c.number.ensures) (none-told inc c.in-Err.status c.args.session.now why)
