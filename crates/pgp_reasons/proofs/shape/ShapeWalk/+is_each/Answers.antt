use Rattle.std.proofs.Common.{◌≡◌, arith}
use Rattle.std.proofs.lemmas.Grind.{common_steps}
use Rattle.std.proofs.lemmas.Result.{IfOk-weaker}
use Rattle.pgp_reasons.specs.kept.Shape.{IsEach}
use Rattle.pgp_reasons.proofs.ShapeLemmas.{each-both, each-none}
use Rattle.pgp_reasons.proofs.shape.ShapeWalk.+is_each.Goals as goal

pub returns-then-rest-left-clause-each : goal.returns-then-rest-left-clause-each
returns-then-rest-left-clause-each g t c = λ _.
    each-none (g.E.Enough.enough c.args.self.now.judge.now) c.args.wanted c.args.self.now.chosen.items c.args.left c.args.rest.now c.args.others.now c.if-rest-left.true

pub returns-clause-each : goal.returns-clause-each
returns-clause-each g t c =
    let enough = g.E.Enough.enough c.args.self.now.judge.now in
    let popped : c.pop.new.self.items ≡ c.args.self.now.chosen.items = grind (arith, common_steps) in
    IfOk-weaker c.is_each-2.result _ _
    (λ is each said.
    let without : IsEach enough c.args.wanted c.pop.new.self.items c.args.left c.in-Some.later.now c.args.others.now = rw c.in_ok-with_first.ensures.judge at each said in
    each-both enough c.args.wanted c.args.self.now.chosen.items c.push.new.self.items c.pop.new.self.items c.args.left c.in-Some.first.now c.args.rest.now c.in-Some.later.now c.args.others.now
    (omega arith) c.in-Some.ensures.cases.0 c.in_ok-push.ensures.items popped (c.in_ok-with_first.ensures.each c.if-not-with_first.false) without)
    c.is_each-2.ensures.each
