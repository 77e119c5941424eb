use Rattle.pgp_shard.proofs.Common.{◌≡◌, is_some, map, take, arc_value, HasReadSame, having_read_all}
use Rattle.pgp_shard.proofs.shard.ShardState.absorb_all.Given as goal

abbrev pub invariant-loop-entry : goal.invariant-loop-entry
invariant-loop-entry l = record {
  read : HasReadSame (having_read_all l.fn.self (map arc_value (take l.entry-index l.entries))) l.self;
  there : is_some l.self.marks ≡ is_some l.fn.self.marks;
}
