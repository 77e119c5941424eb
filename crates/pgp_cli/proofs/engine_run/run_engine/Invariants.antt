use Rattle.pgp_feed.specs.Feeds.{told_of}
use Rattle.pgp_feed.specs.Receipts.{feed_of}
use Rattle.pgp_cli.proofs.engine_run.run_engine.Given as goal

-- the feed that was just made
abbrev pub ghosts-run_over : goal.ghosts-run_over
ghosts-run_over g a = record { feed = feed_of (told_of a.made.0) }
