use Rattle.std.proofs.Common.{◌≡◌, IfSome, subst}
use Rattle.std.proofs.lemmas.List.Elements.{All-pop}
use Rattle.pgp_feed.specs.Receipts.{feed_of}
use Rattle.pgp_feed.specs.Taps.{last_of}
use Rattle.pgp_engine.proofs.engine.make.parts.Goals as goal

pub make_clients-requires : goal.make_clients-requires
make_clients-requires g c = (All-pop (λ tap. feed_of (last_of tap) ≡ g.J.Naming.feed) _ _ _ c.pop.ensures.items c.in_ok-shards.ensures.feed).0

pub returns-clause-tap : goal.returns-clause-tap
returns-clause-tap g c =
    subst (λ popped. IfSome popped (λ tap. feed_of (last_of tap) ≡ g.J.Naming.feed)) c.unwrap-tap.ensures
    (All-pop (λ tap. feed_of (last_of tap) ≡ g.J.Naming.feed) _ _ _ c.pop.ensures.items c.in_ok-shards.ensures.feed).1
