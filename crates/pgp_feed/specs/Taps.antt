-- What a tap gave last.
use Rattle.pgp_feed.specs.declared.receipt.Receipt.{Receipt}
use Rattle.pgp_feed.specs.declared.tap.Tap.{Tap}

-- the front that the tap gave or read last
abbrev pub last_of : Tap → Receipt
last_of tap = tap.last
