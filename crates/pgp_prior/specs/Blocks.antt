-- The past intervals that a placement group has to reckon with, and those for whose devices it has to wait (Ceph's
-- developer documentation on peering: the prior set). `status` says what has become of a device of an interval, given
-- the first epoch of the interval.
use Rattle.std.specs.Prelude.{ℕ, List, Bool, true, false, not, ◌&&◌, nat_le, map, filter}
use Rattle.std.specs.List.{list_any}
use Rattle.pgp_ids.specs.declared.member.Member.{Member}
use Rattle.pgp_ids.specs.declared.past.Past.{Past}
use Rattle.pgp_sets.specs.declared.status.Status.{Status}
use Rattle.pgp_sets.specs.declared.status.Status.TheVariants.{Up, Gone, Lost, Down}
use Rattle.pgp_prior.specs.Members.{members_of, member_slots}

abbrev pub is_up_status : Status → Bool
is_up_status Up = true
is_up_status Gone = false
is_up_status Lost = false
is_up_status Down = false

abbrev pub is_down : Status → Bool
is_down Up = false
is_down Gone = false
is_down Lost = false
is_down Down = true

abbrev pub is_lost : Status → Bool
is_lost Up = false
is_lost Gone = false
is_lost Lost = true
is_lost Down = false

-- the device counts towards enough: what it held is at hand, or was given up for lost
abbrev pub is_settled : Status → Bool
is_settled Up = true
is_settled Gone = false
is_settled Lost = true
is_settled Down = false

-- writes may have been taken in the interval that the group knows nothing of: it may have gone read-write, and it didn't
-- end before the epoch in which the group last began to serve
abbrev pub matters : ℕ → Past → Bool
matters les past = past.rw && nat_le les past.last

-- those members of acting whose status passes the test
abbrev pub acting_where : (Status → Bool) → Bool → (ℕ → ℕ → Status) → Past → List Member
acting_where test by_place status past =
    filter (λ member. test (status member.osd past.first)) (members_of by_place past.members.acting)

-- the devices of acting that are down
abbrev pub down_osds : Bool → (ℕ → ℕ → Status) → Past → List ℕ
down_osds by_place status past = map (λ member. member.osd) (acting_where is_down by_place status past)

-- the slots of the acting members that are up or lost
abbrev pub settled_slots : Bool → (ℕ → ℕ → Status) → Past → List ℕ
settled_slots by_place status past = member_slots (acting_where is_settled by_place status past)

-- a member of acting is down
abbrev pub has_down : Bool → (ℕ → ℕ → Status) → Past → Bool
has_down by_place status past =
    list_any (λ member. is_down (status member.osd past.first)) (members_of by_place past.members.acting)

-- the interval matters, its members that are up or lost aren't enough, and one is down that may come back
abbrev pub blocks : (List ℕ → Bool) → Bool → (ℕ → ℕ → Status) → ℕ → Past → Bool
blocks enough by_place status les past =
    matters les past && not (enough (settled_slots by_place status past)) && has_down by_place status past
