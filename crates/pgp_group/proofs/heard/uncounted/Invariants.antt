use Rattle.pgp_group.proofs.Common.{◌≡◌, take, filter, GroupLog, IsPresent}
use Rattle.pgp_group.specs.Heard.{counts}
use Rattle.pgp_group.proofs.heard.uncounted.Given as goal

-- the infos so far count
abbrev pub invariant-loop-info : goal.invariant-loop-info
invariant-loop-info l =
    (g : GroupLog) → IsPresent g l.map l.first → filter (counts g) (take l.info-index l.infos) ≡ take l.info-index l.infos
