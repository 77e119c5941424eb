-- What a map said of the devices of past intervals, and the statuses that this gives (this project's own choice).
use Rattle.std.specs.Prelude.{◌≡◌, ℕ, List, Bool, true, not, Contains, nat_eq, nat_lt, map as mapped, if◌then◌else◌}
use Rattle.std.specs.List.{list_any}
use Rattle.pgp_ids.specs.declared.member.Member.{Member}
use Rattle.pgp_ids.specs.declared.past.Past.{Past}
use Rattle.pgp_map.specs.Held.{held_exists, held_up, held_lost_at}
use Rattle.pgp_map.specs.declared.map.OsdMap.{OsdMap}
use Rattle.pgp_prior.specs.Better.{is_no_worse}
use Rattle.pgp_prior.specs.Changes.{is_no_better, is_same_or_gone}
use Rattle.pgp_prior.specs.Members.{members_of}
use Rattle.pgp_sets.specs.Status.{status_by}
use Rattle.pgp_sets.specs.declared.status.Status.{Status}
use Rattle.pgp_sets.specs.declared.status.Status.TheVariants.{Up}
use Rattle.pgp_group.specs.declared.device_facts.DeviceFacts.{DeviceFacts}
use Rattle.pgp_group.specs.declared.device_facts.EachUp.{EachUp}

-- what the map says of the device
abbrev pub noted_of : OsdMap → ℕ → DeviceFacts
noted_of map osd =
    record { osd = osd; up = held_up map osd; there = held_exists map osd; lost_at = held_lost_at map osd }

-- what the map says of the device of this entry
abbrev pub renoted : OsdMap → DeviceFacts → DeviceFacts
renoted map entry = noted_of map entry.osd

abbrev pub renoted_all : OsdMap → List DeviceFacts → List DeviceFacts
renoted_all map noted = mapped (renoted map) noted

-- an entry is of the device
abbrev pub has_noted : ℕ → List DeviceFacts → Bool
has_noted osd noted = list_any (λ entry. nat_eq entry.osd osd) noted

-- the status of the entry's device, for an interval that began at the epoch `first`
abbrev pub status_noted : DeviceFacts → ℕ → Status
status_noted entry first = status_by entry.up entry.there entry.lost_at first

-- each device is up
abbrev pub status_up : EachUp → ℕ → ℕ → Status
status_up all osd first = Up

-- The status of a device of which the map said the first and says the second may change so: for the better where it is up;
-- for the worse where it was, or counts as lost no more; from down or lost to gone; and in any way where it was made again.
abbrev pub allows_turn : (before after : DeviceFacts) → Status → Status → Bool
allows_turn before after =
    if after.up then is_no_worse
    else (if before.up then is_no_better
    else (if not after.there then is_same_or_gone
    else (if not before.there then (λ old new. true)
    else (if nat_lt after.lost_at before.lost_at then is_no_better else is_no_worse))))

-- each acting member of these intervals is noted
abbrev pub HasEachMember : Bool → List Past → List DeviceFacts → Type 0
HasEachMember by_place past noted =
    (interval : Past) (member : Member) → Contains past interval
    → Contains (members_of by_place interval.members.acting) member → has_noted member.osd noted ≡ true

-- the acting members of these intervals have the statuses that their entries give
abbrev pub GivesEach : Bool → (ℕ → ℕ → Status) → List Past → List DeviceFacts → Type 0
GivesEach by_place status past noted =
    (interval : Past) (member : Member) (entry : DeviceFacts) → Contains past interval
    → Contains (members_of by_place interval.members.acting) member → Contains noted entry → entry.osd ≡ member.osd
    → status member.osd interval.first ≡ status_noted entry interval.first

-- each entry says what the map says
abbrev pub AreOfMap : OsdMap → List DeviceFacts → Type 0
AreOfMap map noted = (entry : DeviceFacts) → Contains noted entry → entry ≡ renoted map entry
