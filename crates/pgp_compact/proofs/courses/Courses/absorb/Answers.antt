use Rattle.pgp_compact.proofs.Common.{Course, Courses, EachIsCourse, List, arith, ok-two, refl, subst, sym, then_with, with_items, with_items_is, ◌≡◌}
use Rattle.pgp_compact.proofs.CoursesLemmas.{gone-by, gone-on}
use Rattle.pgp_compact.proofs.courses.Courses.absorb.Goals as goal

pub returns-then-moves_none : goal.returns-then-moves_none
returns-then-moves_none c = λ incs entries next before are. grind (arith, gone-by incs c.args.inc.now c.args.after.now next entries c.args.self.now are)

pub returns : goal.returns
returns c =
    let old : Courses = c.args.self.now in
    let all : List Course = c.absorb.new.groups in
    let was : c.as_mut_slice.result.now ≡ old.all.items = c.as_mut_slice.ensures.value in
    let is : (with_items old.all all).items ≡ all = with_items_is old.all all (grind (arith, c.absorb.auto.groups, old.all.ok.0)) in
    ok-two c.absorb.result _ _ _ (λ each same incs entries next before are.
    gone-on incs c.args.inc.now c.args.after.now next entries old are (record old { all = with_items old.all all }) refl
    (subst (EachIsCourse (then_with incs c.args.inc.now)) (sym is) (each incs next before (subst (EachIsCourse incs) (sym was) are.each)))
    (grind (arith, same))) c.absorb.ensures.each c.absorb.ensures.same
