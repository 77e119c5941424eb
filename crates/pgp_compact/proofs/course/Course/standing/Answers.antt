use Rattle.pgp_compact.proofs.Common.{arith, nat_tests, some_is}
use Rattle.pgp_compact.proofs.WholeLemmas.{stands, stands-absent}
use Rattle.pgp_compact.proofs.course.Course.standing.Goals as goal

pub returns-then-is_none : goal.returns-then-is_none
returns-then-is_none c = λ log legal is started known. stands-absent log c.args.self.now c.args.clean is (grind (arith, nat_tests))

pub returns : goal.returns
returns c = λ log legal is started known.
    let p = some_is c.args.self.now.place (grind (arith, nat_tests)) in
    stands log c.args.self.now c.args.clean c.opening.result legal is started known p.0 p.1 c.opening.ensures
