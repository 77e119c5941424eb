-- How the work that the next questions would have to do ends. This project's own choice.
use Rattle.std.specs.Prelude.{◌≡◌, ◌⊎◌, ℕ, Option, Some, None}
use Rattle.pgp_core.specs.Session.{LogAndAnswer}
use Rattle.pgp_c.specs.Status.{status_number}
use Rattle.pgp_c.specs.declared.status.Status.TheVariants.{Done, NoMemory, NotOpen}

-- Some of it was done by a session, where there is one, or there was no memory for it. The session says what it said before.
abbrev pub Works : Option LogAndAnswer → Option LogAndAnswer → ℕ → ℕ → Type 0
Works None now left status = (now ≡ None) × (left ≡ 0) × (status ≡ status_number NotOpen)
Works (Some was) now left status = (now ≡ Some was) × ((status ≡ status_number Done) ⊎ ((left ≡ 0) × (status ≡ status_number NoMemory)))
