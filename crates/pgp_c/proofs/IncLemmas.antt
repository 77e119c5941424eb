-- Nothing was made of what C gave as an incremental.
use Rattle.std.proofs.Common.{inl, inr, Option, Some, None, refl}
use Rattle.pgp_ids.specs.declared.incremental.Incremental.{Incremental}
use Rattle.pgp_core.specs.Session.{LogAndAnswer}
use Rattle.pgp_c.specs.Each.{IsWhy}
use Rattle.pgp_c.specs.Inc.{SubmitsGiven}
use Rattle.pgp_c.specs.Status.{status_number}
use Rattle.pgp_c.specs.declared.status.Status.{Status}
use Rattle.pgp_c.specs.declared.status.Status.TheVariants.{Done, RoomTooSmall, NoMemory, NotOpen, AlreadyOpen, BadArgument, NoList, NoLines}

pub none-told : (told : Option Incremental) (status : Status) (was : LogAndAnswer) → IsWhy status told → SubmitsGiven told was was (status_number status)
none-told None BadArgument was why = (refl, inl refl)
none-told (Some inc) BadArgument was why = absurd cc
none-told None NoMemory was why = (refl, inr refl)
none-told (Some inc) NoMemory was why = inr (record { same = refl; status_is = refl })
none-told told Done was why = absurd why
none-told told RoomTooSmall was why = absurd why
none-told told NotOpen was why = absurd why
none-told told AlreadyOpen was why = absurd why
none-told told NoList was why = absurd why
none-told told NoLines was why = absurd why
