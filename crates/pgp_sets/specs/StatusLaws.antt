-- The status that the map of a list of incrementals gives is the one that the list gives.
use Rattle.std.proofs.Common.{◌≡◌, ℕ, List}
use Rattle.pgp_ids.specs.declared.incremental.Incremental.{Incremental}
use Rattle.pgp_map.specs.declared.map.OsdMap.{OsdMap}
use Rattle.pgp_map.specs.HeldLaws.{held_exists-is, held_up-is, held_lost_at-is}
use Rattle.pgp_map.specs.MapOf.{IsMapOf}
use Rattle.pgp_sets.specs.Status.{status_by, status, held_status}

pub held_status-is : (incs : List Incremental) (map : OsdMap) → IsMapOf incs map → (osd first : ℕ) → held_status map osd first ≡ status incs osd first
held_status-is incs map is osd first =
    λ i. status_by (held_up-is incs map is osd i) (held_exists-is incs map is osd i) (held_lost_at-is incs map is osd i) first
