use Rattle.pgp_feed.specs.Receipts.{feed_of}
use Rattle.pgp_feed.specs.Feeds.{told_of}
use Rattle.pgp_thread_tests.proofs.engine.begins.an_engine_begins_with_a_log.Given as goal

-- the feed that was just made
abbrev pub ghosts-begun_with : goal.ghosts-begun_with
ghosts-begun_with g a = record { feed = feed_of (told_of a.feed) }
