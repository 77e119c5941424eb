use Rattle.std.proofs.Common.{◌≡◌, All, sym, subst, arith, rules}
use Rattle.std.proofs.lemmas.Grind.{common_steps}
use Rattle.std.proofs.lemmas.List.Elements.{All-pop, All-push}
use Rattle.pgp_feed.specs.Receipts.{feed_of}
use Rattle.pgp_feed.specs.Taps.{last_of}
use Rattle.pgp_engine.specs.Clients.{IsNew}
use Rattle.pgp_engine.proofs.engine.make.make_clients.Goals as goal

pub loop-tap-preserved : goal.loop-tap-preserved
loop-tap-preserved g c = record {
  made = first_of (search rules, grind (arith, common_steps));
  all = subst (All IsNew) (sym c.in_ok-push.ensures.items) (All-push IsNew c.loop-tap.clients.items c.over.result c.loop-tap.invariant.all c.over.ensures.empty);
  feed = (All-pop (λ tap. feed_of (last_of tap) ≡ g.J.Naming.feed) _ _ _ c.pop.ensures.items c.loop-tap.invariant.feed).0;
}
