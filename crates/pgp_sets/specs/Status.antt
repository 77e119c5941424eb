-- What has become of a device of a past interval, by the map that a list of incrementals makes (Ceph's developer
-- documentation on peering: which devices of the prior set can be asked, and which were given up).
use Rattle.std.specs.Prelude.{ℕ, List, Bool, not, nat_lt, if◌then◌else◌}
use Rattle.pgp_ids.specs.declared.incremental.Incremental.{Incremental}
use Rattle.pgp_map.specs.declared.map.OsdMap.{OsdMap}
use Rattle.pgp_map.specs.Devices.{exists, is_up, lost_at}
use Rattle.pgp_map.specs.Held.{held_exists, held_up, held_lost_at}
use Rattle.pgp_sets.specs.declared.status.Status.{Status}
use Rattle.pgp_sets.specs.declared.status.Status.TheVariants.{Up, Gone, Lost, Down}

-- the status of a device that is up or isn't, is there or isn't, and was last given up for lost at `lost`, for an interval
-- that began at the epoch `first`
abbrev pub status_by : Bool → Bool → ℕ → ℕ → Status
status_by up there lost first =
    if up then Up
    else (if not there then Gone
    else (if nat_lt first lost then Lost else Down))

-- the status of a device for an interval that began at the epoch `first`
abbrev pub status : List Incremental → ℕ → ℕ → Status
status incs osd first = status_by (is_up incs osd) (exists incs osd) (lost_at incs osd) first

-- the same by a map itself
abbrev pub held_status : OsdMap → ℕ → ℕ → Status
held_status map osd first = status_by (held_up map osd) (held_exists map osd) (held_lost_at map osd) first
