-- What is kept of a history as it grows, and whose history that is.
use Rattle.std.specs.Prelude.{◌≡◌, ℕ, ◌+◌, ◌≤◌, List, Bool, All}
use Rattle.pgp_ids.specs.declared.membership.Membership.{Membership}
use Rattle.pgp_ids.specs.declared.past.Past.{Past}
use Rattle.pgp_interval.specs.History.{History, last_place}
use Rattle.pgp_interval.specs.ReadWrite.{was_clean}
use Rattle.pgp_interval.specs.Runs.{past_intervals, current_first}

-- the past intervals of a group, and the current one: its first epoch, the current epoch, the membership, and whether the
-- group was clean in one of its epochs so far
pub record Running (C : Type 0) : Type 0 where
  pub code : C
  pub past : List Past
  pub first : ℕ
  pub last : ℕ
  pub current : Membership
  pub clean : Bool

-- these are the intervals of the history of a group that was clean in these epochs, none of which is after the current one
pub record IsIntervalsOf {C : Type 0} (enough : C → List ℕ → Bool) (by_place : C → Bool) (h : History C) (cleans : List ℕ) (running : Running C) : Type 0 where
  pub code_is : running.code ≡ h.code
  pub past_are : running.past ≡ past_intervals enough by_place cleans h
  pub first_is : running.first ≡ current_first h
  pub last_is : running.last ≡ h.first + last_place h
  pub current_is : running.current ≡ h.current
  pub clean_is : running.clean ≡ was_clean cleans running.first running.last
  pub within : All (λ clean. clean ≤ h.first + last_place h) cleans
