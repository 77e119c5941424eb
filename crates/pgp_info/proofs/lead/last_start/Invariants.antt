use Rattle.std.proofs.Common.{◌≡◌, take}
use Rattle.pgp_info.specs.Best.{last_start}
use Rattle.pgp_info.proofs.lead.last_start.Given as goal

abbrev pub invariant-loop-info : goal.invariant-loop-info
invariant-loop-info l = l.start ≡ last_start (take l.info-index l.infos)
