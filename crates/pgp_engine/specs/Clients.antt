-- A client, and the map by which it places objects.
use Rattle.std.specs.Prelude.{ℕ, ◌≡◌, ◌<◌, [], length}
use Rattle.pgp_feed.specs.Receipts.{entries_of}
use Rattle.pgp_feed.specs.declared.receipt.Receipt.{Receipt}

-- a client: the front that it has come to, and how many entries of it the chart has taken
pub record Placer : Type 0 where
  pub front : Receipt
  pub charted : ℕ

-- the chart lacks some entries of this front
abbrev pub HasToChart : Placer → Receipt → Type 0
HasToChart client front = client.charted < length (entries_of front)

-- the client has come to no entry
abbrev pub IsNew : Placer → Type 0
IsNew client = entries_of client.front ≡ []
