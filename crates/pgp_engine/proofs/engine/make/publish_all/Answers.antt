use Rattle.std.proofs.Common.{[], ◌∷◌, ◌++◌, List, map, ap, sym, ◌∙◌, arith}
use Rattle.std.proofs.lemmas.List.{take_all}
use Rattle.std.specs.Arc.{arc_value}
use Rattle.pgp_ids.specs.declared.entry.Entry.{Entry}
use Rattle.pgp_log.specs.Fits.{fits}
use Rattle.pgp_log.proofs.SharedLemmas.{next-after, next-of-legal}
use Rattle.pgp_feed.specs.Receipts.{entries_of}
use Rattle.pgp_feed.specs.Feeds.{told_of}
use Rattle.pgp_engine.proofs.engine.make.publish_all.Goals as goal

pub publish_shared-requires : goal.publish_shared-requires
publish_shared-requires g c =
    let log : List Entry = entries_of (told_of c.args.feed.now) in
    ap (λ (l : List Entry). fits l (arc_value c.entry-item.result)) c.loop-entry.invariant.log
    ∙ next-of-legal log arc_value c.args.entries.now c.loop-entry.entry-index c.entry-item.result c.requires c.loop-entry-test.true c.entry-item.is

pub loop-entry-preserved : goal.loop-entry-preserved
loop-entry-preserved g c =
    let log : List Entry = entries_of (told_of c.args.feed.now) in
    record {
      feed = c.publish_shared.ensures.feed ∙ c.loop-entry.invariant.feed;
      log = ap entries_of (sym c.in_ok-publish_shared.ensures.published.0) ∙ (c.in_ok-publish_shared.ensures.published.1
          ∙ (ap (λ (l : List Entry). l ++ arc_value c.entry-item.result ∷ []) c.loop-entry.invariant.log
          ∙ sym (next-after log arc_value c.args.entries.now c.loop-entry.entry-index c.entry-item.result c.loop-entry-test.true c.entry-item.is)));
    }

pub returns-clause-log : goal.returns-clause-log
returns-clause-log g c =
    let log : List Entry = entries_of (told_of c.args.feed.now) in
    c.loop-entry.invariant.log ∙ ap (λ l. log ++ map arc_value l) (take_all c.loop-entry.entry-index c.args.entries.now (omega (arith, c.loop-entry-test.false)))
