use Rattle.std.proofs.Common.{nat_lt, drop}
use Rattle.pgp_ids.specs.Member.{is_before}
use Rattle.pgp_prior.specs.Blocks.{is_up_status, matters, acting_where, down_osds, blocks}
use Rattle.pgp_prior.specs.Prior.{probe, blocked_by}
use Rattle.pgp_prior.proofs.Lists.{IsWalk}
use Rattle.pgp_prior.proofs.walk.prior.Given as goal

-- the lists, with what the intervals that are left add, are those of the prior set
abbrev pub invariant-loop-interval : goal.invariant-loop-interval
invariant-loop-interval g l =
    let enough = g.R.Recoverable.enough l.code in
    let by_place = g.R.Recoverable.by_place l.code in
    let status = g.S.StatusOf.status_of l.statuses in
    IsWalk is_before (acting_where is_up_status by_place status) (matters l.les) (probe by_place status l.les l.past l.current) (drop l.interval-index l.past) l.probe.items
    × IsWalk nat_lt (down_osds by_place status) (blocks enough by_place status l.les) (blocked_by enough by_place status l.les l.past) (drop l.interval-index l.past) l.blocked_by.items
