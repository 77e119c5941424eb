-- The places of the past intervals that a device stands in.
use Rattle.std.specs.Prelude.{ℕ, List, [], unwrap_or, nat_eq}
use Rattle.std.specs.HashMap as hash
use Rattle.std.specs.HashMap.{HashMap}

-- the places that the table has for the device
abbrev pub places_of : {S : Type 0} → HashMap ℕ (List ℕ) S → ℕ → List ℕ
places_of table osd = unwrap_or (hash.get nat_eq table osd) []
