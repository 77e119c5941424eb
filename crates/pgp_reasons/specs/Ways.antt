-- What becomes of a group that is down once some devices boot, and others are declared lost. The ways are this project's own;
-- what is lost or up and what a group waits for are the words of the layers below.
use Rattle.std.specs.Prelude.{ℕ, List, Bool, not, if◌then◌else◌}
use Rattle.pgp_ids.specs.declared.past.Past.{Past}
use Rattle.pgp_prior.specs.Prior.{is_group_down}
use Rattle.pgp_sets.specs.declared.status.Status.{Status}
use Rattle.pgp_sets.specs.declared.status.Status.TheVariants.{Up, Gone, Lost, Down}
use Rattle.pgp_reasons.specs.Smallest.{holds}

-- a device that is declared lost is so where it was down: one that was destroyed stays gone
abbrev pub given_up : Status → Status
given_up Up = Up
given_up Gone = Gone
given_up Lost = Lost
given_up Down = Lost

-- the status of a device, for an interval that began at the epoch `first`, after these devices booted and those were declared
-- lost
abbrev pub status_after : (starts losses : List ℕ) → (ℕ → ℕ → Status) → ℕ → ℕ → Status
status_after starts losses status osd first =
    if holds starts osd then Up else (if holds losses osd then given_up (status osd first) else status osd first)

-- no past interval blocks the group any more after that
abbrev pub is_relieved : (List ℕ → Bool) → Bool → (ℕ → ℕ → Status) → ℕ → List Past → (starts losses : List ℕ) → Bool
is_relieved enough by_place status les past starts losses =
    not (is_group_down enough by_place (status_after starts losses status) les past)
