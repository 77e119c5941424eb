use Rattle.pgp_compact.proofs.Common.{List, Span, [], arith, cond, epoch-snoc, refl, then_with, ◌++◌, ◌-◌, ◌∷◌, ◌≡◌}
use Rattle.pgp_compact.proofs.CoursesLemmas.{moved, under-way}
use Rattle.pgp_compact.proofs.course.Course.leave.Goals as goal

pub returns-clause-ok : goal.returns-clause-ok
returns-clause-ok c = λ incs inc place next before some differ lies is.
    let later = then_with incs inc in
    let now = c.args.self.now in
    let after = c.if-wants_clean.self in
    let u = is.there place some in
    let longer : List Span = now.spans.items ++ record { first = now.first; last = inc.epoch - 1 } ∷ [] in
    let spans : after.spans.items ≡ cond c.wants_clean.result longer now.spans.items = grind (arith, c.epoch-self.ensures later next.after_is, epoch-snoc incs inc) in
    let same-pg : after.pg ≡ now.pg = grind arith in
    let same-les : after.les ≡ now.les = grind arith in
    let wants = c.wants_clean.ensures incs inc place next before some u in
    let way = moved incs inc c.args.after.now next now.pg now.les now.first now.spans.items place c.args.next u lies differ
    c.epoch-self.result c.wants_clean.result after.spans.items wants (c.epoch-self.ensures later next.after_is) spans in
    under-way later _ c.args.next refl (grind (arith, same-pg, same-les, way))
