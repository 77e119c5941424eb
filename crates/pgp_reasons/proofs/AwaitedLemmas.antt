-- The devices for which a group waits stand in ascending order, each once.
use Rattle.std.proofs.Common.{nat_lt}
use Rattle.pgp_code.specs.AnyCode.{enough_of, is_by_place}
use Rattle.pgp_lists.specs.Ordered.{IsAscending}
use Rattle.pgp_prior.proofs.PriorLemmas.{IsAscending-blocked_by}
use Rattle.pgp_sets.specs.Status.{status}
use Rattle.pgp_group.specs.GroupLog.{GroupLog, incs}
use Rattle.pgp_group.specs.Heard.{les}
use Rattle.pgp_group.specs.Peering.{past, prior}

pub blocked_by-ascends : (g : GroupLog) → IsAscending nat_lt (prior g).blocked_by
blocked_by-ascends g = IsAscending-blocked_by (enough_of g.history.code) (is_by_place g.history.code) (status (incs g)) (les g) (past g)
