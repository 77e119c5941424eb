-- A session that begins with the log of another one. This project's own choice.
use Rattle.std.specs.Prelude.{◌≡◌, ℕ, [], Option, Some, None}
use Rattle.pgp_core.specs.Session.{LogAndAnswer}
use Rattle.pgp_c.specs.Status.{status_number}
use Rattle.pgp_c.specs.declared.status.Status.TheVariants.{Done, NoMemory, NotOpen, AlreadyOpen}

-- it has the log of the other session and reads lines up to the same version, and has answered no line
pub record IsCopy (session copy : LogAndAnswer) : Type 0 where
  pub log : copy.log ≡ session.log
  pub answer : copy.answer ≡ []
  pub format : copy.format ≡ session.format

-- A session was opened as a copy of another one, where that is open, there is memory, and none is open there.
abbrev pub OpensCopy : Option LogAndAnswer → Option LogAndAnswer → Option LogAndAnswer → Option LogAndAnswer → ℕ → Type 0
OpensCopy (Some copy) copy_now session session_now status =
    (copy_now ≡ Some copy) × (session_now ≡ session) × (status ≡ status_number AlreadyOpen)
OpensCopy None copy_now None session_now status = (copy_now ≡ None) × (session_now ≡ None) × (status ≡ status_number NotOpen)
OpensCopy None None (Some session) session_now status = (session_now ≡ Some session) × (status ≡ status_number NoMemory)
OpensCopy None (Some copy) (Some session) session_now status = (session_now ≡ Some session) × IsCopy session copy × (status ≡ status_number Done)
