use Rattle.std.proofs.Common.{◌≡◌, IfSome, subst, arith, rules}
use Rattle.std.proofs.lemmas.Grind.{common_steps}
use Rattle.std.proofs.lemmas.List.Elements.{All-pop}
use Rattle.pgp_feed.specs.Receipts.{feed_of}
use Rattle.pgp_feed.specs.Taps.{last_of}
use Rattle.pgp_engine.proofs.engine.make.make_shards.Goals as goal

pub start-requires-clause-tap : goal.start-requires-clause-tap
start-requires-clause-tap g c =
    subst (λ popped. IfSome popped (λ tap. feed_of (last_of tap) ≡ g.J.Naming.feed)) c.unwrap-tap.ensures
    (All-pop (λ tap. feed_of (last_of tap) ≡ g.J.Naming.feed) _ _ _ c.pop.ensures.items c.loop-shard.invariant.feed).1

pub returns-in_err-push-clause-feed : goal.returns-in_err-push-clause-feed
returns-in_err-push-clause-feed g c = (All-pop (λ tap. feed_of (last_of tap) ≡ g.J.Naming.feed) _ _ _ c.pop.ensures.items c.loop-shard.invariant.feed).0

pub loop-shard-preserved : goal.loop-shard-preserved
loop-shard-preserved g c = record {
  made = first_of (search rules, grind (arith, common_steps));
  left = first_of (search rules, grind (arith, common_steps));
  feed = (All-pop (λ tap. feed_of (last_of tap) ≡ g.J.Naming.feed) _ _ _ c.pop.ensures.items c.loop-shard.invariant.feed).0;
}
