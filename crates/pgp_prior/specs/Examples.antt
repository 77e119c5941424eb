-- A group of an erasure pool with two data shards: in the epochs 1 and 2, in which it may have gone read-write, it lay on
-- the devices 0, 1 and 2, and now it lies on 0, 3 and 4.
use Rattle.std.specs.Prelude.{ℕ, zero, suc, List, [], ◌∷◌, Option, Some, true, false, nat_lt, if◌then◌else◌}
use Rattle.pgp_ids.specs.Osds.{first_osd}
use Rattle.pgp_ids.specs.declared.membership.Membership.{Membership}
use Rattle.pgp_ids.specs.declared.past.Past.{Past}
pub use Rattle.pgp_ids.specs.Examples.{in_slot}
use Rattle.pgp_code.specs.Enough.{enough_shards}
use Rattle.pgp_sets.specs.declared.status.Status.{Status}
use Rattle.pgp_sets.specs.declared.status.Status.TheVariants.{Up, Lost, Down}
use Rattle.pgp_prior.specs.declared.prior_set.Prior.{Prior}
use Rattle.pgp_prior.specs.Prior.{prior_set}

-- acting is this list, and no tree places the group
abbrev pub acting_on : List (Option ℕ) → Membership
acting_on acting =
    record {
      up = [];
      up_primary = first_osd [];
      acting = acting;
      acting_primary = first_osd acting;
      size = 3;
      min_size = 2;
    }

abbrev pub lay_on : Past
lay_on = record { first = 1; last = 2; members = acting_on (Some 0 ∷ Some 1 ∷ Some 2 ∷ []); rw = true }

abbrev pub acting_now : Membership
acting_now = acting_on (Some 0 ∷ Some 3 ∷ Some 4 ∷ [])

-- device 0 is up, the devices 1 and 2 have these statuses, and those that came later are up
abbrev pub with_statuses : Status → Status → ℕ → ℕ → Status
with_statuses one two zero first = Up
with_statuses one two (suc zero) first = one
with_statuses one two (suc (suc zero)) first = two
with_statuses one two _ first = Up

-- the same interval, if it was not read-write
abbrev pub lay_unwritten : Past
lay_unwritten = record lay_on { rw = false }

-- the prior set of the group after these past intervals, where 1 and 2 have these statuses and it never served
abbrev pub prior_after : List Past → Status → Status → Prior
prior_after past one two = prior_set (enough_shards 2) true (with_statuses one two) 0 past acting_now

-- the prior set of the group, where 1 and 2 have these statuses and the group last began to serve in epoch `les`
abbrev pub prior_with : Status → Status → ℕ → Prior
prior_with one two les = prior_set (enough_shards 2) true (with_statuses one two) les (lay_on ∷ []) acting_now

-- the status of a device that isn't up and was given up for lost at the epoch `lost`, for an interval that began at `first`
abbrev pub lost_in : ℕ → ℕ → Status
lost_in lost first = if nat_lt first lost then Lost else Down
