use Rattle.pgp_group.proofs.Common.{◌≡◌, List, map, take, LogEntry, Info, IsLogOf, peer_state, others_heard}
use Rattle.pgp_group.proofs.group.best_copy.states.Given as goal

abbrev pub invariant-loop-member : goal.invariant-loop-member
invariant-loop-member l =
    (info : Info) (reported : List LogEntry) → IsLogOf info reported l.log → info.member ≡ l.best
    → l.states.items ≡ map (λ peer. record { member = peer.member; state = peer_state info reported peer }) (others_heard (take l.member-index l.members) l.heard.infos info)
