use Rattle.std.proofs.Common.{◌≡◌, ◌≤◌, ◌-◌, length, All}
use Rattle.std.specs.Prelude.{vec_capacity}
use Rattle.pgp_feed.specs.Feeds.{told_of}
use Rattle.pgp_feed.specs.Taps.{last_of}
use Rattle.pgp_feed.proofs.feed.Feed.taps.Given as goal

abbrev pub invariant-loop-self : goal.invariant-loop-self
invariant-loop-self l = record {
  told : told_of l.self ≡ told_of l.initial.self;
  few : length l.taps.items ≤ l.count;
  room : l.count ≤ vec_capacity l.taps;
  each : All (λ tap. last_of tap ≡ told_of l.initial.self) l.taps.items;
}

abbrev pub decreases-loop-self : goal.decreases-loop-self
decreases-loop-self l = l.count - length l.taps.items
