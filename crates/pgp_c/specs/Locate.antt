-- How the question where an object lies ends. This project's own choice.
use Rattle.std.specs.Prelude.{◌≡◌, ◌⊎◌, ℕ, ◌<◌, ◌≤◌, List, length, Option, Some, None}
use Rattle.std.specs.Str.{IsUtf8}
use Rattle.pgp_ids.specs.declared.entry.Entry.{Entry}
use Rattle.pgp_ids.specs.LocateRefusal.{locate_refusal_number}
use Rattle.pgp_ids.specs.declared.locate_refusal.LocateRefusal.TheVariants.{UnknownPool}
use Rattle.pgp_lines.specs.declared.command.Command.TheVariants.{Locate}
use Rattle.pgp_text.specs.declared.reply.Reply.{Reply}
use Rattle.pgp_text.specs.declared.reply.Reply.TheVariants.{Accepted, Asked, Located, Traced, Refused}
use Rattle.pgp_core.specs.Session.{LogAndAnswer, reply_in}
use Rattle.pgp_c.specs.Place.{pgp_place}
use Rattle.pgp_c.specs.Status.{status_number}
use Rattle.pgp_c.specs.declared.place.PgpPlace.{PgpPlace}
use Rattle.pgp_c.specs.declared.status.Status.TheVariants.{Done, NoMemory, NotOpen, BadArgument}

abbrev pub IsPool : ℕ → Type 0
IsPool pool = (1 ≤ pool) × (pool ≤ 255)

abbrev pub IsName : List ℕ → Type 0
IsName name = (1 ≤ length name) × (length name ≤ 255) × IsUtf8 name

-- the place of the reply was put where C reads it, or the number of its refusal is the status
abbrev pub PutsPlace : Reply → PgpPlace → PgpPlace → ℕ → Type 0
PutsPlace (Located pg members epoch) old new status = (new ≡ pgp_place pg members epoch) × (status ≡ status_number Done)
PutsPlace (Refused why) old new status = (new ≡ old) × (status ≡ locate_refusal_number UnknownPool)
PutsPlace (Accepted op count epoch) old new status = (new ≡ old) × (status ≡ locate_refusal_number UnknownPool)
PutsPlace (Asked pg view) old new status = (new ≡ old) × (status ≡ locate_refusal_number UnknownPool)
PutsPlace (Traced first past) old new status = (new ≡ old) × (status ≡ locate_refusal_number UnknownPool)

-- there was no memory for the name, which has more than 24 bytes
pub record LacksNameMemory (name : List ℕ) (old new : PgpPlace) (status : ℕ) : Type 0 where
  pub long : 24 < length name
  pub same : new ≡ old
  pub status_is : status ≡ status_number NoMemory

-- The question was answered by the log.
pub record LocatesIn (log : List Entry) (pool : ℕ) (name : List ℕ) (old new : PgpPlace) (status : ℕ) : Type 0 where
  pub bad : (IsPool pool → IsName name → ⊥) → (new ≡ old) × (status ≡ status_number BadArgument)
  pub good : IsPool pool → IsName name → PutsPlace (reply_in log (Locate pool name)) old new status ⊎ LacksNameMemory name old new status

-- The question was answered by a session, where there is one.
abbrev pub Locates : Option LogAndAnswer → Option LogAndAnswer → ℕ → List ℕ → PgpPlace → PgpPlace → ℕ → Type 0
Locates None now pool name old new status = (now ≡ None) × (new ≡ old) × (status ≡ status_number NotOpen)
Locates (Some was) now pool name old new status = (now ≡ Some was) × LocatesIn was.log pool name old new status
