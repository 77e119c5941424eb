use Rattle.std.proofs.Common.{◌++◌, List, map, ap, ◌∙◌}
use Rattle.std.specs.Arc.{arc_value}
use Rattle.pgp_ids.specs.declared.entry.Entry.{Entry}
use Rattle.pgp_feed.specs.Receipts.{entries_of, feed_of}
use Rattle.pgp_engine.proofs.engine.Engine.over.Goals as goal

pub returns-clause-told : goal.returns-clause-told
returns-clause-told g c = record {
  of_feed = ap feed_of c.told-told.ensures ∙ (c.publish_all.ensures.feed ∙ c.requires.feed);
  entries = ap entries_of c.told-told.ensures ∙ (c.in-Ok.ensures.log ∙ ap (λ (l : List Entry). l ++ map arc_value c.args.entries.now) c.requires.empty);
}
