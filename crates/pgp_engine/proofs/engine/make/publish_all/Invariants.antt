use Rattle.std.proofs.Common.{◌≡◌, ◌++◌, map, take}
use Rattle.std.specs.Arc.{arc_value}
use Rattle.pgp_feed.specs.Receipts.{entries_of, feed_of}
use Rattle.pgp_feed.specs.Feeds.{told_of}
use Rattle.pgp_engine.proofs.engine.make.publish_all.Given as goal

abbrev pub invariant-loop-entry : goal.invariant-loop-entry
invariant-loop-entry g l = record {
  feed : feed_of (told_of l.feed) ≡ feed_of (told_of l.initial.feed);
  log : entries_of (told_of l.feed) ≡ entries_of (told_of l.initial.feed) ++ map arc_value (take l.entry-index l.entries);
}
