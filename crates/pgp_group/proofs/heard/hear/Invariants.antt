use Rattle.pgp_group.proofs.Common.{◌≡◌, take, filter, with_infos, GroupLog, IsPresent}
use Rattle.pgp_group.specs.Heard.{counts}
use Rattle.pgp_group.proofs.heard.hear.Given as goal

abbrev pub invariant-loop-info : goal.invariant-loop-info
invariant-loop-info l =
    (g : GroupLog) → IsPresent g l.map l.first
    → l.best ≡ record l.initial.best { infos = with_infos (filter (counts g) (take l.info-index l.told)) l.initial.best.infos }
