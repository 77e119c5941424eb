use Rattle.std.proofs.Common.{append_assoc}
use Rattle.pgp_prior.proofs.statuses.Statuses.of_interval.Goals as goal

pub loop-member-preserved : goal.loop-member-preserved
loop-member-preserved g c =
    (tt, tt, rw (c.in_ok-push.ensures.items, c.status.ensures, append_assoc) (rw c.in-Some.ensures.steps at c.loop-member.invariant.2))
