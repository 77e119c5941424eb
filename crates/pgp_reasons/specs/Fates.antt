-- What has become of the members of a past interval, and of what was written in it. `status` says what has become of a device
-- of an interval, given the first epoch of the interval; `lost` gives the epoch that was told when a device was last given up
-- for lost, 0 if it never was.
use Rattle.std.specs.Prelude.{ℕ, List, Bool, true, false, nat_lt, map, filter, if◌then◌else◌}
use Rattle.pgp_code.specs.AnyCode.{enough_of, is_by_place}
use Rattle.pgp_code.specs.declared.any.AnyCode.{AnyCode}
use Rattle.pgp_ids.specs.declared.past.Past.{Past}
use Rattle.pgp_lists.specs.Ordered.{ascending}
use Rattle.pgp_prior.specs.Blocks.{is_up_status, is_down, is_lost, acting_where}
use Rattle.pgp_sets.specs.declared.status.Status.{Status}
use Rattle.pgp_sets.specs.declared.status.Status.TheVariants.{Up, Gone, Lost, Down}
use Rattle.pgp_reasons.specs.declared.fates.IntervalNow.{IntervalNow}
use Rattle.pgp_reasons.specs.declared.fates.Writes.{Writes}
use Rattle.pgp_reasons.specs.declared.fates.Writes.TheVariants as writes

abbrev pub is_gone : Status → Bool
is_gone Up = false
is_gone Gone = true
is_gone Lost = false
is_gone Down = false

-- it is this status
abbrev pub is_status : Status → Status → Bool
is_status Up = is_up_status
is_status Gone = is_gone
is_status Lost = is_lost
is_status Down = is_down

-- the device still has what it held: it is up, or, where those that are away count too, down
abbrev pub holds_still : (away : Bool) → Status → Bool
holds_still away Up = true
holds_still away Gone = false
holds_still away Lost = false
holds_still away Down = away

-- the acting devices of the interval that have this status
abbrev pub osds_with : Status → Bool → (ℕ → ℕ → Status) → Past → List ℕ
osds_with wanted by_place status interval =
    map (λ member. member.osd) (acting_where (is_status wanted) by_place status interval)

-- the slots of the acting members that still have what they held
abbrev pub held_slots : (away : Bool) → Bool → (ℕ → ℕ → Status) → Past → List ℕ
held_slots away by_place status interval =
    map (λ member. member.slot) (acting_where (holds_still away) by_place status interval)

-- they are enough to read what was written in the interval, if their copies are complete
abbrev pub are_held : (away : Bool) → AnyCode → (ℕ → ℕ → Status) → Past → Bool
are_held away code status interval =
    enough_of code (ascending nat_lt (held_slots away (is_by_place code) status interval))

-- What has become of what was written in the interval, at best: members that are up can read it; or they could with those that
-- are down; or it is gone.
abbrev pub writes_by : AnyCode → (ℕ → ℕ → Status) → Past → Writes
writes_by code status interval =
    if are_held false code status interval then writes.Readable
    else (if are_held true code status interval then writes.Away else writes.Gone)

-- those of the devices that were ever given up for lost
abbrev pub once_lost : (ℕ → ℕ) → List ℕ → List ℕ
once_lost lost osds = filter (λ osd. nat_lt 0 (lost osd)) osds

-- The interval, with its members by what has become of them. Of those that are down, some were declared lost before it began,
-- which doesn't count for it.
abbrev pub interval_now : AnyCode → (ℕ → ℕ → Status) → (ℕ → ℕ) → Past → IntervalNow
interval_now code status lost interval =
    record {
      first = interval.first;
      last = interval.last;
      acting = interval.members.acting;
      up = ascending nat_lt (osds_with Up (is_by_place code) status interval);
      down = ascending nat_lt (osds_with Down (is_by_place code) status interval);
      lost = ascending nat_lt (osds_with Lost (is_by_place code) status interval);
      gone = ascending nat_lt (osds_with Gone (is_by_place code) status interval);
      lost_before = once_lost lost (ascending nat_lt (osds_with Down (is_by_place code) status interval));
      writes = writes_by code status interval;
    }
