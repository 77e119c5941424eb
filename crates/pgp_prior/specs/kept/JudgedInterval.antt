-- What the running form keeps of a past interval.
use Rattle.std.specs.Prelude.{◌≡◌, ◌⊎◌, ℕ, List, Some, Bool, ◌&&◌, Contains, slice_get}
use Rattle.pgp_ids.specs.declared.member.Member.{Member}
use Rattle.pgp_ids.specs.declared.past.Past.{Past}
use Rattle.pgp_sets.specs.declared.status.Status.{Status}
use Rattle.pgp_prior.specs.declared.judged_interval.JudgedInterval.{JudgedInterval}
use Rattle.pgp_prior.specs.Members.{members_of}
use Rattle.pgp_prior.specs.Blocks.{matters, blocks}
use Rattle.pgp_prior.specs.kept.KnownStatuses.{status_in}

-- the status of each acting member is known, and whether the interval blocks
pub record IsKept (enough : List ℕ → Bool) (by_place : Bool) (status : ℕ → ℕ → Status) (les : ℕ) (kept : JudgedInterval) : Type 0 where
  pub statuses_are : (member : Member) → Contains (members_of by_place kept.past.members.acting) member → status_in kept.statuses.known.items member.osd ≡ Some (status member.osd kept.past.first)
  pub blocks_is : kept.blocks ≡ blocks enough by_place status les kept.past

abbrev pub past_of : JudgedInterval → Past
past_of kept = kept.past

-- each of these intervals is kept so
abbrev pub EachKept : (List ℕ → Bool) → Bool → (ℕ → ℕ → Status) → ℕ → List JudgedInterval → Type 0
EachKept enough by_place status les past = (kept : JudgedInterval) → Contains past kept → IsKept enough by_place status les kept

-- each interval is kept by the new statuses, or stands at one of these places and is kept by the old ones
abbrev pub IsUnderWay : (List ℕ → Bool) → Bool → ℕ → (ℕ → ℕ → Status) → (ℕ → ℕ → Status) → List ℕ → List JudgedInterval → Type 0
IsUnderWay enough by_place les old new places past =
    (place : ℕ) (kept : JudgedInterval) → slice_get past place ≡ Some kept
    → IsKept enough by_place new les kept ⊎ (IsKept enough by_place old les kept × Contains places place)

-- the interval, where the group last began to serve in this epoch, which isn't before the one that was
abbrev pub later_les : ℕ → JudgedInterval → JudgedInterval
later_les les kept = record kept { blocks = kept.blocks && matters les kept.past }
