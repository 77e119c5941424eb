-- How a question about a placement group ends. This project's own choice.
use Rattle.std.specs.Prelude.{◌≡◌, ◌⊎◌, ℕ, ◌≤◌, List, length, true, Option, Some, None, is_some, Result, Ok, Err}
use Rattle.pgp_ids.specs.declared.entry.Entry.{Entry}
use Rattle.pgp_ids.specs.declared.pg_id.PgId.{PgId}
use Rattle.pgp_ids.specs.declared.view.View.{View}
use Rattle.pgp_ids.specs.AskRefusal.{ask_refusal_number}
use Rattle.pgp_ids.specs.declared.ask_refusal.AskRefusal.TheVariants.{UnknownGroup}
use Rattle.pgp_group.specs.Touched.{view_at}
use Rattle.pgp_log.specs.Log.{epoch_of}
use Rattle.pgp_core.specs.Session.{LogAndAnswer, view_in}
use Rattle.pgp_c.specs.Locate.{IsPool}
use Rattle.pgp_c.specs.Status.{status_number}
use Rattle.pgp_c.specs.View.{pgp_view}
use Rattle.pgp_c.specs.declared.status.Status.TheVariants.{Done, NoMemory, NotOpen, BadArgument}
use Rattle.pgp_c.specs.declared.view.PgpView.{PgpView}

-- the numbers are those of a group
pub record AreOfGroup (pool pg : ℕ) : Type 0 where
  pub of_pool : IsPool pool
  pub in_range : pg ≤ 1023

abbrev pub group : ℕ → ℕ → PgId
group pool pg = record { pool = pool; pg = pg }

-- the view, or the number of the refusal
abbrev pub view_or_refusal : Option View → Result View ℕ
view_or_refusal None = Err (ask_refusal_number UnknownGroup)
view_or_refusal (Some view) = Ok view

-- What the log says of the group: the view, or the status that tells why it says nothing.
pub record AnswersIn (log : List Entry) (pool pg : ℕ) (answer : Result View ℕ) : Type 0 where
  pub bad : (AreOfGroup pool pg → ⊥) → answer ≡ Err (status_number BadArgument)
  pub good : AreOfGroup pool pg → (answer ≡ view_or_refusal (view_in log (group pool pg)))
      ⊎ ((is_some (view_in log (group pool pg)) ≡ true) × (answer ≡ Err (status_number NoMemory)))

-- This was put of what the log says of the group.
pub record Gives (log : List Entry) (pool pg : ℕ) (Puts : Result View ℕ → Type 0) : Type 0 where
  pub answer : Result View ℕ
  pub answers : AnswersIn log pool pg answer
  pub put : Puts answer

-- the view was put where C reads it, or nothing was, for this reason
abbrev pub PutsView : Result View ℕ → PgpView → PgpView → ℕ → Type 0
PutsView (Ok view) old new status = (new ≡ pgp_view view) × (status ≡ status_number Done)
PutsView (Err why) old new status = (new ≡ old) × (status ≡ why)

-- The question was answered by a session, where there is one.
abbrev pub Asks : Option LogAndAnswer → Option LogAndAnswer → ℕ → ℕ → PgpView → PgpView → ℕ → Type 0
Asks None now pool pg old new status = (now ≡ None) × (new ≡ old) × (status ≡ status_number NotOpen)
Asks (Some was) now pool pg old new status = (now ≡ Some was) × Gives was.log pool pg (λ answer. PutsView answer old new status)

-- the view with the log's count and epoch
abbrev pub whole_view : List Entry → View → View
whole_view log view = view_at (length log) (epoch_of log) view
