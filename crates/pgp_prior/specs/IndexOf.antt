-- Of which group an index is.
use Rattle.std.specs.Prelude.{◌≡◌, ℕ, List, Some, Bool, Contains, map, slice_get}
use Rattle.pgp_ids.specs.declared.member.Member.{Member}
use Rattle.pgp_ids.specs.declared.membership.Membership.{Membership}
use Rattle.pgp_ids.specs.declared.past.Past.{Past}
use Rattle.pgp_sets.specs.declared.status.Status.{Status}
use Rattle.pgp_prior.specs.declared.prior_set.Prior.{Prior}
use Rattle.pgp_prior.specs.declared.index.PriorIndex.{PriorIndex}
use Rattle.pgp_prior.specs.Members.{members_of}
use Rattle.pgp_prior.specs.Prior.{prior_set, is_group_down}
use Rattle.pgp_prior.specs.kept.JudgedInterval.{past_of, EachKept}
use Rattle.pgp_prior.specs.kept.Places.{places_of}

-- what a prior set is reckoned from: the code of the pool, the past intervals of the group, its current membership, the
-- epoch in which it last began to serve, and what has become of a device, given the first epoch of an interval
pub record Basis (C : Type 0) : Type 0 where
  pub code : C
  pub past : List Past
  pub current : Membership
  pub les : ℕ
  pub status : ℕ → ℕ → Status

-- the prior set
abbrev pub prior_by : {C : Type 0} → (C → List ℕ → Bool) → (C → Bool) → Basis C → Prior
prior_by enough by_place b = prior_set (enough b.code) (by_place b.code) b.status b.les b.past b.current

-- the group is down
abbrev pub is_down_by : {C : Type 0} → (C → List ℕ → Bool) → (C → Bool) → Basis C → Bool
is_down_by enough by_place b = is_group_down (enough b.code) (by_place b.code) b.status b.les b.past

-- both tell the same of the acting members of the interval
abbrev pub AgreeOnMembers : Bool → (ℕ → ℕ → Status) → (ℕ → ℕ → Status) → Past → Type 0
AgreeOnMembers by_place told status past =
    (member : Member) → Contains (members_of by_place past.members.acting) member → told member.osd past.first ≡ status member.osd past.first

-- the device of each acting member of a past interval has the place of that interval
abbrev pub HasEachPlace : Bool → List Past → (ℕ → List ℕ) → Type 0
HasEachPlace by_place past places =
    (place : ℕ) (interval : Past) (member : Member) → slice_get past place ≡ Some interval
    → Contains (members_of by_place interval.members.acting) member → Contains (places member.osd) place

-- the index is of this group: it has each past interval in its place, with the status of each of its acting members and
-- with whether it blocks, and for each device the places of the intervals that it stands in
pub record IsIndexOf {C : Type 0} (enough : C → List ℕ → Bool) (by_place : C → Bool) (b : Basis C) (index : PriorIndex C) : Type 0 where
  pub code_is : index.code ≡ b.code
  pub past_are : map past_of index.past.items ≡ b.past
  pub each_kept : EachKept (enough b.code) (by_place b.code) b.status b.les index.past.items
  pub places_are : HasEachPlace (by_place b.code) b.past (places_of index.places)
  pub current_is : index.current ≡ b.current
  pub les_is : index.les ≡ b.les
