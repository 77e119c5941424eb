-- Whose turn it is to add the next entry.
use Rattle.std.specs.Prelude.{◌≡◌}
use Rattle.logbook.specs.Pages.{may_write}
use Rattle.logbook.specs.declared.tokens.Pen.{Pen}
use Rattle.pgp_feed.specs.declared.receipt.Receipt.{Receipt}
use Rattle.pgp_feed.specs.Book.{turn_key}
use Rattle.pgp_feed.specs.Receipts.{feed_of}

-- the pen is that of the turn after the entries that the receipt names
pub record IsTurnAfter (r : Receipt) (pen : Pen) : Type 0 where
  pub book : pen.book ≡ feed_of r
  pub right : pen.nib.right ≡ may_write
  pub key : pen.nib.key ≡ turn_key r.len
