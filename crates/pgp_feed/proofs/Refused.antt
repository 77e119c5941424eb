-- What a read that is refused says of the tap.
use Rattle.std.proofs.Common.{◌≡◌, ℕ, ◌<◌, ◌⊎◌, Bool, true, false, Result, Ok, Err, IfErr, length, inl, inr, sym, subst}
use Rattle.std.specs.Prelude.{nat_le, if◌then◌else◌}
use Rattle.pgp_feed.specs.declared.receipt.Receipt.{Receipt}
use Rattle.pgp_feed.specs.declared.fault.ReadFault.{ReadFault}
use Rattle.pgp_feed.specs.declared.fault.ReadFault.TheVariants.{Memory, NoReader}
use Rattle.pgp_feed.specs.Receipts.{entries_of, Holds}
use Rattle.pgp_feed.specs.ReadFaults.{IsCopyFault, IsTapFault}
use Rattle.pgp_feed.proofs.Views.{holds_trans}

stays_or_short : (b : Bool) (n : ℕ) (old told new : Receipt) → new ≡ (if b then old else told) → length (entries_of told) < n → (new ≡ old) ⊎ (length (entries_of new) < n)
stays_or_short true n old told new is less = inl is
stays_or_short false n old told new is less = inr (subst (λ (r : Receipt). length (entries_of r) < n) (sym is) less)

-- the tap keeps the longer of its last front and the told one
pub tap_refused : {A : Type 0} (found : Result A ReadFault) (at : ℕ) (receipt old told new : Receipt) → IfErr found (IsCopyFault at receipt told)
    → new ≡ (if nat_le (length (entries_of told)) (length (entries_of old)) then old else told) → Holds new told → IfErr found (IsTapFault at receipt old new)
tap_refused (Ok x) at receipt old told new copy which holds = copy
tap_refused (Err Memory) at receipt old told new copy which holds = (copy.0, inr (holds_trans new told receipt holds copy.1))
tap_refused (Err NoReader) at receipt old told new copy which holds =
    stays_or_short (nat_le (length (entries_of told)) (length (entries_of old))) (length (entries_of receipt)) old told new which copy
