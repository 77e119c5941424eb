use Rattle.std.proofs.Common.{length}
use Rattle.pgp_reasons.proofs.shape.ShapeWalk.+is_each.Given as goal

abbrev pub decreases-is_each : goal.decreases-is_each
decreases-is_each g l = length l.rest.now
