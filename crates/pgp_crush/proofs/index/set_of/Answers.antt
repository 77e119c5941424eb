use Rattle.std.proofs.Common.{◌≡◌, Bool, ◌||◌, get_or, pos, FitsSigned, w32, cond, true, rules, arith}
use Rattle.std.specs.Cmp.{int_eq_equiv}
use Rattle.std.specs.Ordering.{int_eq}
use Rattle.std.proofs.lemmas.Bool.Decides.{nat_tests}
use Rattle.std.proofs.lemmas.Int.{to_z-of_z}
use Rattle.std.proofs.lemmas.List.Folds.{list_any_more}
use Rattle.pgp_crush.proofs.index.set_of.Goals as goal

swapped : (a b : Bool) → cond a true b ≡ (b || a)
swapped a b = grind (arith, nat_tests)

pub loop-id-preserved : goal.loop-id-preserved
loop-id-preserved c = λ q.
    let id = get_or c.args.ids.now c.loop-id.id-index (pos 0) in
    let fits : FitsSigned w32 id = search rules in
    let put = rw (to_z-of_z _ _ fits, int_eq_equiv.symm id q) at (c.in_ok-insert.ensures.updates.0 q) in
    rw (list_any_more (int_eq q) c.args.ids.now c.loop-id.id-index (pos 0) c.loop-id-test.true, ← (c.loop-id.invariant q), put) (search (rules, swapped))
