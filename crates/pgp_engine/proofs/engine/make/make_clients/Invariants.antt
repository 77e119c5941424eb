use Rattle.std.proofs.Common.{◌≡◌, ◌+◌, length, All}
use Rattle.pgp_feed.specs.Receipts.{feed_of}
use Rattle.pgp_feed.specs.Taps.{last_of}
use Rattle.pgp_engine.specs.Clients.{IsNew}
use Rattle.pgp_engine.proofs.engine.make.make_clients.Given as goal

abbrev pub invariant-loop-tap : goal.invariant-loop-tap
invariant-loop-tap g l = record {
  made : length l.clients.items + length l.taps.items ≡ length l.initial.taps.items;
  all : All IsNew l.clients.items;
  feed : All (λ tap. feed_of (last_of tap) ≡ g.J.Naming.feed) l.taps.items;
}

abbrev pub decreases-loop-tap : goal.decreases-loop-tap
decreases-loop-tap g l = length l.taps.items
