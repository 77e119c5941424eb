use Rattle.pgp_log.proofs.Common.{◌≡◌, false, take, list_any, nat_eq}
use Rattle.pgp_log.proofs.before.MapBefore.facts.Given as goal

-- none of the devices so far is the one
abbrev pub invariant-loop-device : goal.invariant-loop-device
invariant-loop-device l = list_any (λ d. nat_eq d.osd l.osd) (take l.device-index l.device-items) ≡ false
