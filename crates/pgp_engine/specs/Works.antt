-- What a worker comes to.
use Rattle.std.specs.Prelude.{◌≡◌, true, IfSome}
use Rattle.logbook.specs.Pages.{Book}
use Rattle.pgp_log.specs.Log.{is_legal, EndsWithClose}
use Rattle.pgp_feed.specs.declared.receipt.Receipt.{Receipt}
use Rattle.pgp_feed.specs.Receipts.{entries_of, feed_of}
use Rattle.pgp_engine.specs.declared.engine.work.Round.{Round}

-- the receipt is of this feed, and names a legal log that ends with a Close
pub record IsEnd (feed : Book) (r : Receipt) : Type 0 where
  pub of_feed : feed_of r ≡ feed
  pub ends : EndsWithClose (entries_of r)
  pub legal : is_legal (entries_of r) ≡ true

-- where it names an end, that is one of this feed
abbrev pub IsRound : Book → Round → Type 0
IsRound feed round = IfSome round.end (IsEnd feed)
