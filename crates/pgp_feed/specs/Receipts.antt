-- What a receipt names.
use Rattle.std.specs.Prelude.{◌≡◌, List, length}
use Rattle.logbook.specs.Pages.{Book}
use Rattle.pgp_ids.specs.declared.entry.Entry.{Entry}
use Rattle.pgp_feed.specs.declared.receipt.Receipt.{Receipt}
use Rattle.pgp_log.specs.Log.{front, IsFrontOf}

-- the feed that the receipt is of
abbrev pub feed_of : Receipt → Book
feed_of r = r.seen.book

-- the front that it names
abbrev pub entries_of : Receipt → List Entry
entries_of r = front r.len r.seen.log

-- the first receipt is of the same feed as the second, and names a front that holds the second's
pub record Holds (r q : Receipt) : Type 0 where
  pub feed : feed_of q ≡ feed_of r
  pub front : IsFrontOf (entries_of q) (entries_of r)

-- it names all that was seen of the log
abbrev pub IsWhole : Receipt → Type 0
IsWhole r = r.len ≡ length r.seen.log
