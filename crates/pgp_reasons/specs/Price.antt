-- What it costs to end the wait of a group in some way: what is given up, by the members that still have what they held (this
-- project's own words). `before` and `after` say what has become of a device of an interval, before and after the way.
use Rattle.std.specs.Prelude.{ℕ, List, Bool, true, not, ◌&&◌, ◌||◌, nat_lt, map, filter, flat_map}
use Rattle.pgp_code.specs.AnyCode.{enough_of, is_by_place}
use Rattle.pgp_code.specs.declared.any.AnyCode.{AnyCode}
use Rattle.pgp_ids.specs.declared.past.Past.{Past}
use Rattle.pgp_lists.specs.Ordered.{ascending}
use Rattle.pgp_map.specs.Devices.{lost_at}
use Rattle.pgp_prior.specs.Blocks.{blocks, matters}
use Rattle.pgp_sets.specs.Status.{status}
use Rattle.pgp_sets.specs.declared.status.Status.{Status}
use Rattle.pgp_group.specs.GroupLog.{GroupLog, incs}
use Rattle.pgp_group.specs.Heard.{les}
use Rattle.pgp_group.specs.Peering.{past}
use Rattle.pgp_reasons.specs.Fates.{are_held, held_slots, interval_now}
use Rattle.pgp_reasons.specs.Ways.{status_after}
use Rattle.pgp_reasons.specs.declared.price.Price.{Price}

-- The way concerns the interval: the group has to reckon with its writes, and waited for its devices; or its writes could be
-- read with the devices that were down, and no longer can.
abbrev pub concerns : AnyCode → (before after : ℕ → ℕ → Status) → ℕ → Past → Bool
concerns code before after les interval =
    matters les interval
    && (blocks (enough_of code) (is_by_place code) before les interval
    || (are_held true code before interval && not (are_held true code after interval)))

abbrev pub is_rw : Past → Bool
is_rw interval = interval.rw

-- the slots that the devices still have, up or down, which served in some interval that may have gone read-write
abbrev pub slots_left : AnyCode → (ℕ → ℕ → Status) → List Past → List ℕ
slots_left code after past = ascending nat_lt (flat_map (held_slots true (is_by_place code) after) (filter is_rw past))

-- what the way costs: the intervals that it concerns, as they are after it, and whether no object can be read any more
abbrev pub price_by : AnyCode → (before after : ℕ → ℕ → Status) → (ℕ → ℕ) → ℕ → List Past → Price
price_by code before after lost les past =
    record {
      intervals = map (interval_now code after lost) (filter (concerns code before after les) past);
      unreadable = not (enough_of code (slots_left code after past));
    }

-- what it costs to boot these devices and to give those up
abbrev pub price : (starts losses : List ℕ) → GroupLog → Price
price starts losses g =
    price_by g.history.code (status (incs g)) (status_after starts losses (status (incs g))) (lost_at (incs g)) (les g) (past g)
