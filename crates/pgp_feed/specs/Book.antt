-- The rule of the book whose log is the published one, and what its steps tell.
--
-- Each entry has a turn. Whoever takes the next turn gets the pen of a new word, and the log grows only in the step that brings
-- that word home.
use Rattle.std.specs.Prelude.{ℕ, ◌≡◌, ◌≤◌, ◌+◌, true, nat_lt, List, [], ◌∷◌, ◌++◌, length}
use Rattle.logbook.specs.Pages.{Cell, Step, View, Book, Named, cell, nib, may_make}
use Rattle.pgp_ids.specs.declared.entry.Entry.{Entry}
use Rattle.pgp_log.specs.Log.{is_legal}

-- the first word is the length of the log, which is legal, and the second the number of turns that were taken; those of the
-- entries of the log are over, and at most one other was taken
pub record IsBookOf (cells : List Cell) (log : List Entry) : Type 0 where
  pub turns : List Cell
  pub words : cells ≡ (length log, true) ∷ (length turns, true) ∷ turns
  pub over : (k : ℕ) → (cell turns k).1 ≡ nat_lt k (length log)
  pub few : length turns ≤ length log + 1
  pub legal : is_legal log ≡ true

-- the word that is the length of the log
abbrev pub length_word : Book → Named
length_word book = record { tracked = true; key = 0; book = book }

-- the word that is the number of turns that were taken
abbrev pub turns_word : Book → Named
turns_word book = record { tracked = true; key = 1; book = book }

-- the word of the turn of the entry after this many
abbrev pub turn_key : ℕ → ℕ
turn_key n = n + 2

-- the entry was added to all that had been seen
abbrev pub Adds : Step Entry → View Entry ℕ → ℕ → View Entry ℕ → Type 0
Adds step before found after = (after.0 ≡ before.0 ++ step.ask ∷ []) × (is_legal after.0 ≡ true)

-- the number was found that was expected, and then the turn after this many was taken
abbrev pub TakesTurn : Step Entry → View Entry ℕ → ℕ → View Entry ℕ → Type 0
TakesTurn step before found after = found ≡ step.old → after.1.0 ≡ nib may_make (turn_key step.old) 0
