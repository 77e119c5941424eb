use Rattle.pgp_group.proofs.PeerLemmas.{peers-contains, contains-peers, peer_states-ascend}
use Rattle.pgp_group.proofs.laws.each_other_heard_member_is_a_peer.Goals as goal

pub returns-clause-peers : goal.returns-clause-peers
returns-clause-peers c = λ g best info. (
  peers-contains g best info,
  λ both. contains-peers g best info both.0 both.1,
)

pub returns-clause-ascend : goal.returns-clause-ascend
returns-clause-ascend c = peer_states-ascend
