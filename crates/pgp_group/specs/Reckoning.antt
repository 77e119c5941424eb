-- What holds of a placement group that served, in every log that goes on from there: its interval is remembered as one in
-- which writes may have been taken, and whoever serves later has reckoned with it (Ceph's developer documentation on peering:
-- past intervals, up_thru, last_epoch_started; the laws are this project's own).
use Rattle.std.specs.Prelude.{◌≡◌, ◌⊎◌, ℕ, ◌<◌, ◌≤◌, List, [], true, false, ◌||◌, nat_lt, filter, Contains}
use Rattle.std.specs.List.{list_any}
use Rattle.pgp_code.specs.AnyCode.{enough_of, is_by_place}
use Rattle.pgp_ids.specs.declared.incremental.Incremental.{Incremental}
use Rattle.pgp_ids.specs.declared.member.Member.{Member}
use Rattle.pgp_ids.specs.declared.membership.Membership.{Membership}
use Rattle.pgp_ids.specs.declared.past.Past.{Past}
use Rattle.pgp_interval.specs.Runs.{current_first}
use Rattle.pgp_map.specs.Devices.{lost_at}
use Rattle.pgp_map.specs.Map.{epoch}
use Rattle.pgp_prior.specs.Blocks.{has_down, is_lost}
use Rattle.pgp_prior.specs.Members.{members_of, member_slots}
use Rattle.pgp_sets.specs.Status.{status}
use Rattle.pgp_group.specs.GroupLog.{GroupLog, incs}
use Rattle.pgp_group.specs.Heard.{les, heard, has_member}
use Rattle.pgp_group.specs.Peering.{past}

-- ---- the interval in which a group served

-- the past interval is the one that opened at the epoch `first` with these members and was current still in the epoch `epoch`,
-- and it may have gone read-write
pub record WentReadWrite (first epoch : ℕ) (members : Membership) (interval : Past) : Type 0 where
  pub opened : interval.first ≡ first
  pub of_members : interval.members ≡ members
  pub lasted : epoch ≤ interval.last
  pub rw : interval.rw ≡ true

-- the past interval is the one that is current in this log of the group, and it may have gone read-write
abbrev pub Remembers : GroupLog → Past → Type 0
Remembers g = WentReadWrite (current_first g.history) (epoch (incs g)) g.history.current

-- the interval that was current is current still
pub record IsStillCurrent (g after : GroupLog) : Type 0 where
  pub first : current_first after.history ≡ current_first g.history
  pub members : after.history.current ≡ g.history.current

-- it is current still, or it is past and may have gone read-write
abbrev pub IsRemembered : GroupLog → GroupLog → Type 0
IsRemembered g after =
    IsStillCurrent g after ⊎ ((interval : Past) × Contains (past after) interval × Remembers g interval)

-- ---- who served is reckoned with

-- the acting members of a past interval
abbrev pub acting_of : GroupLog → Past → List Member
acting_of g interval = members_of (is_by_place g.history.code) interval.members.acting

-- those that were heard, or were given up for lost after the interval opened
abbrev pub heard_or_lost : GroupLog → Past → List Member
heard_or_lost g interval =
    filter (λ member. has_member member (heard g) || is_lost (status (incs g) member.osd interval.first)) (acting_of g interval)

-- nobody is left to wait for who may know of writes that were taken in the interval: the slots of its acting members that
-- were heard or given up for lost are enough, or none of its acting members is down
abbrev pub IsReckonedWith : GroupLog → Past → Type 0
IsReckonedWith g interval =
    (enough_of g.history.code (member_slots (heard_or_lost g interval)) ≡ true)
    ⊎ (has_down (is_by_place g.history.code) (status (incs g)) interval ≡ false)

-- the interval that was current is past, and it is reckoned with, or the group is known to have begun to serve after it
pub record IsAccountedFor (g after : GroupLog) : Type 0 where
  pub interval : Past
  pub there : Contains (past after) interval
  pub remembers : Remembers g interval
  pub how : IsReckonedWith after interval ⊎ (interval.last < les after)

-- ---- what makes no group down

-- the incremental takes no device down, destroys none, and gives none up for lost at an earlier epoch than before
pub record TakesNothingAway (incs : List Incremental) (inc : Incremental) : Type 0 where
  pub down : inc.down ≡ []
  pub gone : inc.gone ≡ []
  pub lost : list_any (λ told. nat_lt told.epoch (lost_at incs told.osd)) inc.lost ≡ false
