-- The prior set of a placement group (Ceph's developer documentation on peering).
use Rattle.std.specs.Prelude.{◌≡◌, ◌⊎◌, ℕ, List, ◌++◌, Bool, true, false, filter, flat_map, nat_lt, Contains}
use Rattle.std.specs.List.{list_any}
use Rattle.pgp_ids.specs.Member.{is_before}
use Rattle.pgp_ids.specs.declared.member.Member.{Member}
use Rattle.pgp_ids.specs.declared.membership.Membership.{Membership}
use Rattle.pgp_ids.specs.declared.past.Past.{Past}
use Rattle.pgp_sets.specs.declared.status.Status.{Status}
use Rattle.pgp_sets.specs.declared.status.Status.TheVariants.{Up, Down}
use Rattle.pgp_prior.specs.declared.prior_set.Prior.{Prior}
use Rattle.pgp_lists.specs.Ordered.{ascending}
use Rattle.pgp_prior.specs.Members.{members_of}
use Rattle.pgp_prior.specs.Blocks.{is_up_status, matters, acting_where, down_osds, settled_slots, blocks}

-- the members that have to be heard: those of up and acting, and those of acting of each interval that matters that are up
abbrev pub probe : Bool → (ℕ → ℕ → Status) → ℕ → List Past → Membership → List Member
probe by_place status les past current =
    ascending is_before
    (members_of by_place current.up ++ members_of by_place current.acting
    ++ flat_map (acting_where is_up_status by_place status) (filter (matters les) past))

-- the devices for which the group has to wait: those of intervals that block that are down
abbrev pub blocked_by : (List ℕ → Bool) → Bool → (ℕ → ℕ → Status) → ℕ → List Past → List ℕ
blocked_by enough by_place status les past =
    ascending nat_lt (flat_map (down_osds by_place status) (filter (blocks enough by_place status les) past))

-- some interval blocks
abbrev pub is_group_down : (List ℕ → Bool) → Bool → (ℕ → ℕ → Status) → ℕ → List Past → Bool
is_group_down enough by_place status les past = list_any (blocks enough by_place status les) past

abbrev pub prior_set : (List ℕ → Bool) → Bool → (ℕ → ℕ → Status) → ℕ → List Past → Membership → Prior
prior_set enough by_place status les past current =
    record {
      probe = probe by_place status les past current;
      blocked_by = blocked_by enough by_place status les past;
      down = is_group_down enough by_place status les past;
    }

-- a past interval for which the group has to wait, and a member of it that is down
pub record IsBlocking (enough : List ℕ → Bool) (by_place : Bool) (status : ℕ → ℕ → Status) (les : ℕ) (past : List Past) (interval : Past) (member : Member) : Type 0 where
  pub there : Contains past interval
  pub matters : matters les interval ≡ true
  pub short : enough (settled_slots by_place status interval) ≡ false
  pub acting : Contains (members_of by_place interval.members.acting) member
  pub down : status member.osd interval.first ≡ Down

-- the member has to be heard: it is one of up or acting, or it is up and was one of acting in an interval that matters
abbrev pub IsProbed : Bool → (ℕ → ℕ → Status) → ℕ → List Past → Membership → Member → Type 0
IsProbed by_place status les past current member =
    Contains (members_of by_place current.up) member
    ⊎ (Contains (members_of by_place current.acting) member
    ⊎ ((interval : Past) × Contains past interval × (matters les interval ≡ true)
    × Contains (members_of by_place interval.members.acting) member × (status member.osd interval.first ≡ Up)))
