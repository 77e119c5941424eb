use Rattle.std.proofs.Common.{◌≡◌, take}
use Rattle.std.specs.List.{filter_map}
use Rattle.pgp_group.specs.GroupLog.{group_in}
use Rattle.pgp_whole.specs.kept.Hearing.{AreStamps}
use Rattle.pgp_whole.specs.kept.Sums.{AreSums}
use Rattle.pgp_whole.proofs.summary.sums_of.Given as goal

abbrev pub invariant-loop-pg : goal.invariant-loop-pg
invariant-loop-pg l = record {
  same : l.log ≡ l.fn.log;
  sums : AreStamps l.fn.log l.stamps → AreSums (filter_map (group_in l.fn.log) (take l.pg-index l.groups)) l.sums;
}
