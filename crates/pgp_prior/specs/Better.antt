-- Changes of a device's status after which no more has to be waited for.
use Rattle.std.specs.Prelude.{◌≡◌, ℕ, Bool, true, false}
use Rattle.pgp_sets.specs.declared.status.Status.{Status}
use Rattle.pgp_sets.specs.declared.status.Status.TheVariants.{Up, Gone, Lost, Down}

-- the status stayed, or a device came up, or one that was down was given up for lost
abbrev pub is_no_worse : Status → Status → Bool
is_no_worse old Up = true
is_no_worse Gone Gone = true
is_no_worse Lost Lost = true
is_no_worse Down Lost = true
is_no_worse Down Down = true
is_no_worse _ _ = false

-- no status is worse than it was
abbrev pub IsNoWorse : (ℕ → ℕ → Status) → (ℕ → ℕ → Status) → Type 0
IsNoWorse old new = (osd first : ℕ) → is_no_worse (old osd first) (new osd first) ≡ true
