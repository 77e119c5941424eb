-- What is known of the devices of a past interval.
use Rattle.std.specs.Prelude.{ℕ, List, [], ◌∷◌, Option, Some, None, unwrap_or, nat_eq, if◌then◌else◌}
use Rattle.pgp_ids.specs.declared.member.Member.{Member}
use Rattle.pgp_sets.specs.declared.status.Status.{Status}
use Rattle.pgp_sets.specs.declared.status.Status.TheVariants.{Gone}
use Rattle.pgp_prior.specs.declared.statuses.KnownStatus.{KnownStatus}

-- what the first entry of the device says
abbrev pub status_in : List KnownStatus → ℕ → Option Status
status_in [] osd = None
status_in (known ∷ rest) osd = if nat_eq known.osd osd then Some known.status else status_in rest osd

abbrev pub status_or_gone : List KnownStatus → ℕ → Status
status_or_gone known osd = unwrap_or (status_in known osd) Gone

-- the entry of a member of an interval that began at this epoch
abbrev pub known_of : (ℕ → ℕ → Status) → ℕ → Member → KnownStatus
known_of status first member = record { osd = member.osd; status = status member.osd first }

-- the entry, with this status where it is of this device
abbrev pub renamed : ℕ → Status → KnownStatus → KnownStatus
renamed osd status known = if nat_eq known.osd osd then record known { status = status } else known
