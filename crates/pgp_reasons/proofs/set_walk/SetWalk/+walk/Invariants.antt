use Rattle.std.proofs.Common.{◌+◌, ◌*◌, length}
use Rattle.pgp_reasons.proofs.set_walk.SetWalk.+walk.Given as goal

abbrev pub decreases-walk : goal.decreases-walk
decreases-walk g l = 2 * length l.rest.now + 1

abbrev pub decreases-walk_on : goal.decreases-walk_on
decreases-walk_on g l = 2 * length l.rest.now
