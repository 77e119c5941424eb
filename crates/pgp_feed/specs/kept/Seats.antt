-- What a reader knows of its feed.
use Rattle.std.specs.Prelude.{◌≡◌, Option, Some, option_map}
use Rattle.logbook.specs.Pages.{Book}
use Rattle.left_right.specs.declared.reader.Reader.{Reader}
use Rattle.left_right.specs.Sides.{view}
use Rattle.pgp_feed.specs.declared.receipt.Receipt.{Receipt}
use Rattle.pgp_feed.specs.Receipts.{feed_of}

-- the reader is there, and what it saw last is of this feed
abbrev pub Knows : {T P A : Type 0} → Option (Reader T (Option Receipt) P A) → Book → Type 0
Knows reader feed = option_map (λ r. option_map feed_of (view r.place)) reader ≡ Some (Some feed)
