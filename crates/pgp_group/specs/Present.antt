-- What the code of a group depends on: the last map, and the first epoch of the current interval.
use Rattle.std.specs.Prelude.{◌≡◌, ℕ}
use Rattle.pgp_interval.specs.Runs.{current_first}
use Rattle.pgp_map.specs.MapOf.{IsMapOf}
use Rattle.pgp_map.specs.declared.map.OsdMap.{OsdMap}
use Rattle.pgp_group.specs.GroupLog.{GroupLog, incs}

-- the map is the last one of the group's log, and the epoch the first of the group's current interval
pub record IsPresent (g : GroupLog) (map : OsdMap) (first : ℕ) : Type 0 where
  pub map_is : IsMapOf (incs g) map
  pub first_is : first ≡ current_first g.history
