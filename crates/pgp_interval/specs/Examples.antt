-- Small histories that begin at epoch 1.
use Rattle.std.specs.Prelude.{ℕ, List, [], ◌∷◌, Option, Some, Bool}
use Rattle.pgp_ids.specs.Osds.{first_osd}
use Rattle.pgp_ids.specs.declared.membership.Membership.{Membership}
use Rattle.pgp_ids.specs.declared.history.PrimaryFacts.{PrimaryFacts}
use Rattle.pgp_ids.specs.declared.past.Past.{Past}
use Rattle.pgp_interval.specs.History.{History, begun, stepped}

-- the group lies on these devices, and no pg_temp says otherwise; the pool has size 2
abbrev pub placed_on : List (Option ℕ) → ℕ → Membership
placed_on osds min_size =
    record {
      up = osds;
      up_primary = first_osd osds;
      acting = osds;
      acting_primary = first_osd osds;
      size = 2;
      min_size = min_size;
    }

-- the devices 0 and 1, of which one is enough to serve
abbrev pub both : Membership
both = placed_on (Some 0 ∷ Some 1 ∷ []) 1

-- the devices 0 and 1, of which both have to serve
abbrev pub both_needed : Membership
both_needed = placed_on (Some 0 ∷ Some 1 ∷ []) 2

-- the device 0 alone
abbrev pub alone : Membership
alone = placed_on (Some 0 ∷ []) 1

-- a primary that has been up since epoch 1
abbrev pub known_up_to : ℕ → PrimaryFacts
known_up_to epoch = record { up_from = 1; up_thru = epoch }

-- both devices at the epochs 1 and 2, whose maps have these facts, and another membership at epoch 3
abbrev pub two_epochs_then : {C : Type 0} → C → PrimaryFacts → PrimaryFacts → Membership → History C
two_epochs_then code at_1 at_2 members = stepped (stepped (begun code 1 both) both at_1) members at_2

-- the interval of both devices from epoch 1 to epoch 2
abbrev pub ended_at_2 : Bool → Past
ended_at_2 rw = record { first = 1; last = 2; members = both; rw = rw }
