use Rattle.pgp_compact.proofs.Common.{GroupPlace, arith, checked-has_group, has_group, has_group-grows, on_ok, refl, sym, then_with, true, ◌∙◌, ◌≡◌}
use Rattle.pgp_compact.proofs.CoursesLemmas.{begins, course-unmoved, fine, stayed, under-way, unmoved}
use Rattle.pgp_compact.proofs.course.Course.absorb.Goals as goal

pub at-requires : goal.at-requires
at-requires c = grind (arith, checked-has_group, c.requires.next, c.has_group.ensures)

pub returns-then-has_group-clause-ok : goal.returns-then-has_group-clause-ok
returns-then-has_group-clause-ok c = λ incs next before is.
    let later = then_with incs c.args.inc.now in
    let now = c.args.self.now in
    let there : has_group later now.pg ≡ true = sym (c.has_group.ensures later next.after_is) ∙ c.if-has_group.true in
    let way = begins incs c.args.inc.now c.args.after.now next now.pg now.les c.at.result (is.absent c.in_default.is) there (c.at.ensures later next.after_is) in
    under-way later _ c.at.result refl (grind (arith, way, is.unbegun c.in_default.is, c.epoch-self.ensures later next.after_is))

pub returns-then-not-may_leave-clause-ok : goal.returns-then-not-may_leave-clause-ok
returns-then-not-may_leave-clause-ok c = λ incs next before is.
    let inc = c.args.inc.now in
    let now = c.args.self.now in
    let fault = fine incs inc c.args.after.now next in
    let u = is.there c.in-Some.place c.in-Some.is in
    course-unmoved incs inc c.args.after.now next now (unmoved incs inc now.pg c.in-Some.place fault u.lies (grind (arith, c.may_leave.ensures))) is

pub next-next-requires : goal.next-next-requires
next-next-requires c =
    let next = c.requires.next in
    let fault = fine c.requires.incs c.args.inc.now c.args.after.now next in
    let u = c.requires.is.there c.in-Some.place c.in-Some.is in
    grind (arith, checked-has_group, has_group-grows c.requires.incs c.args.inc.now c.args.self.now.pg u.history fault u.history_is)

pub returns-then-is_same-clause-ok : goal.returns-then-is_same-clause-ok
returns-then-is_same-clause-ok c = λ incs next before is.
    let now = c.args.self.now in
    let place : GroupPlace = c.in-Some.place in
    let to : GroupPlace = c.next-next.result in
    let u = is.there place c.in-Some.is in
    let lies = c.next-next.ensures incs next u.lies in
    under-way _ _ to refl (stayed incs c.args.inc.now c.args.after.now next now.pg now.les now.first now.spans.items place to u lies (sym c.is_same.ensures ∙ c.if-is_same.true))

pub returns-clause-ok : goal.returns-clause-ok
returns-clause-ok c = on_ok c.leave.result _ _ (λ left incs next before is.
    let u = is.there c.in-Some.place c.in-Some.is in
    left incs c.args.inc.now c.in-Some.place next before c.in-Some.is (sym c.is_same.ensures ∙ c.if-is_same.false) (c.next-next.ensures incs next u.lies) is) c.leave.ensures.ok
