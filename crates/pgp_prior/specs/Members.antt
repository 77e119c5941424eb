-- The members of a list of devices (Ceph's documentation of erasure-coded pools: a shard is a device and its place). In an
-- erasure pool a member's slot is its place in the list, in a replicated pool it is 0.
use Rattle.std.specs.Prelude.{ℕ, List, length, map, filter_map, Option, None, option_map, Bool, nat_lt, if◌then◌else◌, slice_index_or}
use Rattle.std.specs.List.{range_with_len}
use Rattle.pgp_ids.specs.declared.member.Member.{Member}
use Rattle.pgp_lists.specs.Ordered.{ascending}

-- the member at this place, if a device stands there
abbrev pub held_member : Bool → List (Option ℕ) → ℕ → Option Member
held_member by_place places place =
    option_map (λ osd. record { osd = osd; slot = if by_place then place else 0 }) (slice_index_or places place None)

-- the members of the list, in the order of their places: its places that hold a device, also where a device has two
abbrev pub members_of : Bool → List (Option ℕ) → List Member
members_of by_place places = filter_map (held_member by_place places) (range_with_len 0 (length places))

-- the slots in which members are, in ascending order, each once
abbrev pub member_slots : List Member → List ℕ
member_slots members = ascending nat_lt (map (λ member. member.slot) members)
