use Rattle.std.proofs.Common.{arith, length, map, ap}
use Rattle.pgp_missing.specs.Kept.{numbered}
use Rattle.pgp_missing.proofs.entries.Entries.is_full.Goals as goal

pub loop-preserved : goal.loop-preserved
loop-preserved c = omega (arith, c.loop.invariant, ap (λ es. length (map numbered es)) c.in-Some.ensures.steps)
