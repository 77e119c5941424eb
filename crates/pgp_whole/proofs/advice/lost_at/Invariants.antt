use Rattle.std.proofs.Common.{◌≡◌, take, map}
use Rattle.pgp_reasons.specs.GroupWays.{lost_at_epoch}
use Rattle.pgp_whole.proofs.advice.lost_at.Given as goal

abbrev pub invariant-loop-osd : goal.invariant-loop-osd
invariant-loop-osd l = l.lost ≡ map (lost_at_epoch l.epoch) (take l.osd-index l.osds)
