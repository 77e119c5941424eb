-- What a worker knows of a front that a shard has read.
use Rattle.std.proofs.Common.{◌≡◌, Bool, true, sym, ◌∙◌}
use Rattle.logbook.specs.Pages.{Book}
use Rattle.pgp_log.proofs.LogLemmas.{closed-ends}
use Rattle.pgp_log.specs.Fits.{is_closed}
use Rattle.pgp_log.specs.Log.{is_legal}
use Rattle.pgp_feed.specs.declared.receipt.Receipt.{Receipt}
use Rattle.pgp_feed.specs.Receipts.{entries_of, feed_of}
use Rattle.pgp_engine.specs.Works.{IsEnd}
use Rattle.pgp_engine.proofs.FrontLemmas.{receipt_legal}

-- a front that was closed ends with the Close
pub end_of : (feed : Book) (r : Receipt) (closed : Bool) → feed_of r ≡ feed → closed ≡ is_closed (entries_of r) → closed ≡ true → IsEnd feed r
end_of feed r closed its is was =
    let legal : is_legal (entries_of r) ≡ true = receipt_legal r in
    record { of_feed = its; ends = closed-ends (entries_of r) legal (sym is ∙ was); legal = legal }
