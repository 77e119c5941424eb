-- What the writer's operations come to.
use Rattle.std.specs.Prelude.{◌≡◌, ◌≤◌, List, [], ◌∷◌, ◌++◌, length}
use Rattle.std.specs.Arc.{arc_value}
use Rattle.pgp_log.specs.Fits.{longest_log}
use Rattle.pgp_feed.specs.declared.receipt.Receipt.{Receipt}
use Rattle.pgp_feed.specs.declared.store.Operation.{Operation}
use Rattle.pgp_feed.specs.declared.store.Operation.TheVariants.{Skip, Put}
use Rattle.pgp_feed.specs.Receipts.{entries_of, feed_of}

-- the operations lead from the log that was told to the next one: they skip, or add one entry, for which a copy has room
abbrev pub IsPut : Receipt → Receipt → List Operation → Type 0
IsPut told next [] = next ≡ told
IsPut told next (Skip ∷ rest) = IsPut told next rest
IsPut told next (Put entry named ∷ rest) = (rest ≡ []) × (named ≡ next) × (feed_of next ≡ feed_of told) × (entries_of next ≡ entries_of told ++ arc_value entry ∷ []) × (length (entries_of told) ≤ longest_log)
