use Rattle.std.proofs.Common.{arith}
use Rattle.pgp_info.proofs.BestLemmas.{distinct_nobody}
use Rattle.pgp_info.proofs.best.Best.new.Goals as goal

pub invariant_of-result : goal.invariant_of-result
invariant_of-result g c =
    grind (arith, distinct_nobody, c.of_nobody.ensures (g.P.Prefer.better c.args.prefer))
