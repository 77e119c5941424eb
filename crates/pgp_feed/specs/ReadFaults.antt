-- Why a read is refused.
use Rattle.std.specs.Prelude.{ℕ, ◌≡◌, ◌<◌, ◌⊎◌, length}
use Rattle.pgp_feed.specs.declared.receipt.Receipt.{Receipt}
use Rattle.pgp_feed.specs.declared.fault.ReadFault.{ReadFault}
use Rattle.pgp_feed.specs.declared.fault.ReadFault.TheVariants.{Memory, NoReader}
use Rattle.pgp_feed.specs.Receipts.{entries_of, Holds}

-- from a place on, of a receipt's front, in a copy that holds what is told: there is something to append and no memory for it, or the copy is short
abbrev pub IsCopyFault : ℕ → Receipt → Receipt → ReadFault → Type 0
IsCopyFault at receipt told Memory = (at < length (entries_of receipt)) × Holds told receipt
IsCopyFault at receipt told NoReader = length (entries_of told) < length (entries_of receipt)

-- by a tap whose last front was the old one, and is now the new one: it stayed where no copy was looked at, and a copy that was short leads to no front that reaches the receipt
abbrev pub IsTapFault : ℕ → Receipt → Receipt → Receipt → ReadFault → Type 0
IsTapFault at receipt old new Memory = (at < length (entries_of receipt)) × ((new ≡ old) ⊎ Holds new receipt)
IsTapFault at receipt old new NoReader = (new ≡ old) ⊎ (length (entries_of new) < length (entries_of receipt))
