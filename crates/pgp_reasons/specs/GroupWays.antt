-- What brings a group back that is down: which of the devices that it waits for have to boot, or to be declared lost.
use Rattle.std.specs.Prelude.{◌≡◌, ℕ, List, [], Bool, not, map, filter, flat_map, if◌then◌else◌}
use Rattle.pgp_code.specs.AnyCode.{enough_of, is_by_place}
use Rattle.pgp_ids.specs.declared.incremental.DeviceEpoch.{DeviceEpoch}
use Rattle.pgp_ids.specs.declared.incremental.Incremental.{Incremental}
use Rattle.pgp_ids.specs.declared.past.Past.{Past}
use Rattle.pgp_prior.specs.Blocks.{blocks}
use Rattle.pgp_prior.specs.Prior.{is_group_down}
use Rattle.pgp_sets.specs.Status.{status}
use Rattle.pgp_sets.specs.declared.status.Status.TheVariants.{Gone}
use Rattle.pgp_group.specs.GroupLog.{GroupLog, incs}
use Rattle.pgp_group.specs.Heard.{les}
use Rattle.pgp_group.specs.Peering.{past, prior}
use Rattle.pgp_reasons.specs.Fates.{osds_with}
use Rattle.pgp_reasons.specs.Smallest.{smallest}
use Rattle.pgp_reasons.specs.Ways.{status_after}

-- the group is down after these devices booted and those were declared lost
abbrev pub is_down_with : (starts losses : List ℕ) → GroupLog → Bool
is_down_with starts losses g =
    is_group_down (enough_of g.history.code) (is_by_place g.history.code) (status_after starts losses (status (incs g))) (les g) (past g)

-- and it isn't, once these boot
abbrev pub brings_back : GroupLog → List ℕ → Bool
brings_back g osds = not (is_down_with osds [] g)

-- The smallest sets of the devices that a group waits for which end its waiting; a group that isn't down has none. Each device of
-- a set is down and in the map, so it may boot, or be declared lost in its place. A destroyed device is in none: what would boot
-- under its number is another, empty one.
abbrev pub ways : GroupLog → List (List ℕ)
ways g = if (prior g).down then smallest (brings_back g) (prior g).blocked_by else []

-- the past intervals that block the group
abbrev pub blocking_past : GroupLog → List Past
blocking_past g =
    filter (blocks (enough_of g.history.code) (is_by_place g.history.code) (status (incs g)) (les g)) (past g)

-- the destroyed devices that served in one of them
abbrev pub destroyed_osds : GroupLog → List ℕ
destroyed_osds g = flat_map (osds_with Gone (is_by_place g.history.code) (status (incs g))) (blocking_past g)

-- a device that is given up for lost at this epoch
abbrev pub lost_at_epoch : ℕ → ℕ → DeviceEpoch
lost_at_epoch epoch osd = record { osd = osd; epoch = epoch }

-- the incremental boots just the first devices, gives just the others up for lost at its own epoch, and takes none down and
-- destroys none, whatever else it says
pub record GoesWay (starts losses : List ℕ) (inc : Incremental) : Type 0 where
  pub up : inc.up ≡ starts
  pub lost : inc.lost ≡ map (lost_at_epoch inc.epoch) losses
  pub down : inc.down ≡ []
  pub gone : inc.gone ≡ []
