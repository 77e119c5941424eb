use Rattle.std.proofs.Common.{drop}
use Rattle.pgp_feed.specs.kept.Puts.{IsPut}
use Rattle.pgp_feed.proofs.feed.publish_queued.Given as goal

abbrev pub invariant-loop : goal.invariant-loop
invariant-loop g l = record {
  can_next : (goal.iterator-loop g).can_next l.iterator';
  is_finite : (goal.iterator-loop g).is_finite l.iterator';
  put : IsPut l.writer.desk.shown.value.told l.told (drop l.writer.behind l.writer.log.items);
}
