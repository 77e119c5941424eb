use Rattle.pgp_shard.proofs.Common.{◌≡◌, take, newer_in}
use Rattle.pgp_shard.proofs.groups.Groups.newer.Given as goal

abbrev pub invariant-loop-kept : goal.invariant-loop-kept
invariant-loop-kept l = l.newer.items ≡ newer_in l.count (take l.kept-index l.self.kept.items)
