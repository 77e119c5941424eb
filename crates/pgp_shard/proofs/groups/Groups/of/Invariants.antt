use Rattle.pgp_shard.proofs.Common.{map, take, arc_value, AreOwnGroupsOf, AreAllMarked}
use Rattle.pgp_shard.proofs.groups.Groups.of.Given as goal

abbrev pub invariant-loop-entry : goal.invariant-loop-entry
invariant-loop-entry l = record {
  is : AreOwnGroupsOf l.owner (map arc_value (take l.entry-index l.entries)) l.groups;
  marked : AreAllMarked l.groups.kept.items;
}
