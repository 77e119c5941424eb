use Rattle.pgp_shard.proofs.Common.{◌≡◌, List, false, take, list_any, Entry, has_to_do_with, IsKeptOf}
use Rattle.pgp_shard.proofs.kept_group.KeptGroup.knows_dated.Given as goal

-- none of the devices so far is one with which the group has to do
abbrev pub invariant-loop-told : goal.invariant-loop-told
invariant-loop-told l =
    (log : List Entry) → IsKeptOf log l.self
    → list_any (λ told. has_to_do_with log l.self.pg told.osd) (take l.told-index l.all) ≡ false
