use Rattle.std.proofs.Common.{◌≡◌, [], drop}
use Rattle.pgp_feed.proofs.feed.queue.Given as goal

abbrev pub invariant-loop : goal.invariant-loop
invariant-loop g l = record {
  can_next : (goal.iterator-loop g).can_next l.iterator';
  is_finite : (goal.iterator-loop g).is_finite l.iterator';
  desk : l.writer.desk ≡ l.initial.writer.desk;
  settled : drop l.writer.behind l.writer.log.items ≡ [];
  operation : l.operation ≡ l.initial.operation;
}
