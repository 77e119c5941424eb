use Rattle.pgp_shard.proofs.Common.{◌≡◌, List, false, take, list_any, Entry, has_to_do_with, IsKeptOf}
use Rattle.pgp_shard.proofs.kept_group.KeptGroup.knows_any.Given as goal

-- none of the devices so far is one with which the group has to do
abbrev pub invariant-loop-osd : goal.invariant-loop-osd
invariant-loop-osd l =
    (log : List Entry) → IsKeptOf log l.self
    → list_any (has_to_do_with log l.self.pg) (take l.osd-index l.osds) ≡ false
