use Rattle.std.proofs.Common.{◌≡◌, [], List, ap, sym, ◌∙◌, subst}
use Rattle.pgp_ids.specs.declared.entry.Entry.{Entry}
use Rattle.pgp_log.specs.Log.{IsFrontOf}
use Rattle.pgp_shard.specs.Shard.{Shard}
use Rattle.pgp_feed.specs.Receipts.{entries_of, feed_of}
use Rattle.pgp_feed.specs.Taps.{last_of}
use Rattle.pgp_engine.proofs.FrontLemmas.{front_none}
use Rattle.pgp_engine.proofs.shard.Shard.start.Goals as goal

pub invariant_of-result : goal.invariant_of-result
invariant_of-result g c =
    let last = last_of c.newest.new.self in
    let of : feed_of c.newest.result ≡ g.J.Naming.feed = sym c.newest.ensures.later.feed ∙ c.requires.tap in
    let none : c.start.result.front ≡ [] = ap (λ (s : Shard). s.front) c.start.ensures in
    record {
      named = record { of_feed = c.front-front.ensures.feed ∙ of; entries = c.front-front.ensures.entries ∙ sym none };
      last_is = ap feed_of (sym c.newest.ensures.last) ∙ of;
      seen = subst (λ (l : List Entry). IsFrontOf l (entries_of last)) (sym none) (front_none (entries_of last));
    }
