-- The two copies at the start.
use Rattle.std.proofs.Common.{◌≡◌, List, [], map, ap, ap₂, sym, ◌∙◌}
use Rattle.std.specs.Arc.{arc_value}
use Rattle.pgp_ids.specs.declared.entry.Entry.{Entry}
use Rattle.pgp_feed.specs.declared.receipt.Receipt.{Receipt}
use Rattle.pgp_feed.specs.declared.store.Store.{Store}
use Rattle.pgp_feed.specs.declared.store.Content.{Content}
use Rattle.pgp_feed.specs.Receipts.{entries_of}
use Rattle.pgp_feed.specs.Stores.{content_of}
use Rattle.pgp_feed.specs.OneLog.{IsTold}

abbrev content : List Entry → Receipt → Content
content entries told = record { entries = entries; told = told }

pub contents_same : (a b : Store) → a.entries.items ≡ b.entries.items → a.told ≡ b.told → content_of a ≡ content_of b
contents_same a b items told = ap₂ content (ap (map arc_value) items) told

pub opening_told : (a : Store) (told : Receipt) → a.told ≡ told → a.entries.items ≡ [] → entries_of told ≡ [] → IsTold a
opening_told a told is items empty = ap (map arc_value) items ∙ sym (ap entries_of is ∙ empty)
