use Rattle.std.proofs.Common.{Some, ap, subst, sym, ◌∙◌, arith, rules}
use Rattle.pgp_c.specs.Each.{IsWhy, each_given}
use Rattle.pgp_c.proofs.GivenLemmas.{each-next, each-why}
use Rattle.pgp_c.proofs.each.each_of.Goals as goal

pub loop-it-preserved : goal.loop-it-preserved
loop-it-preserved g c =
    let is_one = ap g.T.OfC.of_c (sym c.it-item.is) ∙ c.in_ok-of_c.ensures in
    each-next g.T.OfC.of_c c.args.given.now c.loop-it.it-index c.it-item.result c.loop-it.values c.in_ok-of_c.field-0 (omega arith) c.loop-it.invariant is_one
    ∙ ap Some (sym c.in_ok-push.ensures.ok)

pub returns-in_err-of_c : goal.returns-in_err-of_c
returns-in_err-of_c g c =
    let status = c.in_err-of_c.field-0.0 in
    let here = subst (λ it. IsWhy status (g.T.OfC.of_c it)) c.it-item.is c.in_err-of_c.ensures in
    let why : IsWhy status (each_given g.T.OfC.of_c c.args.given.now) =
    each-why g.T.OfC.of_c c.args.given.now c.loop-it.it-index c.it-item.result status (omega arith) here
    in search rules
