-- What a receipt has to do with the one log of a feed.
use Rattle.std.specs.Prelude.{◌≡◌, List}
use Rattle.logbook.specs.Pages.{Book}
use Rattle.pgp_ids.specs.declared.entry.Entry.{Entry}
use Rattle.pgp_feed.specs.declared.receipt.Receipt.{Receipt}
use Rattle.pgp_feed.specs.Receipts.{entries_of, feed_of}

-- the receipt is of this feed, and names this front
pub record Names (feed : Book) (log : List Entry) (r : Receipt) : Type 0 where
  pub of_feed : feed_of r ≡ feed
  pub entries : entries_of r ≡ log
