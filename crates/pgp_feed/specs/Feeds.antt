-- What a feed has told, and what its writer does.
use Rattle.pgp_feed.specs.declared.receipt.Receipt.{Receipt}
use Rattle.pgp_feed.specs.declared.feed.Feed.{Feed}

-- the receipt of the whole log
abbrev pub told_of : Feed → Receipt
told_of feed = feed.told
