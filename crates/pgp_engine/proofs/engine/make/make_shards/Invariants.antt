use Rattle.std.proofs.Common.{◌≡◌, ◌+◌, length, All}
use Rattle.pgp_feed.specs.Receipts.{feed_of}
use Rattle.pgp_feed.specs.Taps.{last_of}
use Rattle.pgp_engine.proofs.engine.make.make_shards.Given as goal

abbrev pub invariant-loop-shard : goal.invariant-loop-shard
invariant-loop-shard g l = record {
  made : length l.all.items ≡ l.shard;
  left : length l.taps.items + l.shard ≡ length l.initial.taps.items;
  feed : All (λ tap. feed_of (last_of tap) ≡ g.J.Naming.feed) l.taps.items;
}
