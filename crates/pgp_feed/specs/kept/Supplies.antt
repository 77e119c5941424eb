-- What a feed is made of before its taps are.
use Rattle.std.specs.Prelude.{ℕ, ◌≡◌, ◌≤◌, [], vec_capacity}
use Rattle.std.specs.declared.vec.Vec.{Vec}
use Rattle.pgp_feed.specs.declared.feed.Feed.{Feed}
use Rattle.pgp_feed.specs.declared.tap.Tap.{Tap}
use Rattle.pgp_feed.specs.Receipts.{entries_of}
use Rattle.pgp_feed.specs.Feeds.{told_of}

-- a feed with an empty log, and an empty list with room for this many taps
pub record IsSupplied {Z : Type 0} (feed : Feed) (list : Vec Tap Z) (taps : ℕ) : Type 0 where
  pub empty : entries_of (told_of feed) ≡ []
  pub none : list.items ≡ []
  pub room : taps ≤ vec_capacity list
