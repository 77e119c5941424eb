-- Where the definitions of the prior set say that a group waits, an interval blocks; it is down where it waits for a device.
use Rattle.std.proofs.Common.{◌≡◌, ℕ, List, [], ◌∷◌, length, ◌==◌, ◌∙◌, ◌++◌, Bool, true, false, not, ◌&&◌, arith, nat_lt, refl, ap, inl, inr}
use Rattle.std.specs.List.{Contains, filter, flat_map}
use Rattle.std.proofs.lemmas.Bool.Decides.{nat_tests}
use Rattle.std.proofs.lemmas.Grind.{common_steps}
use Rattle.pgp_ids.specs.Member.{is_before}
use Rattle.pgp_ids.specs.declared.member.Member.{Member}
use Rattle.pgp_ids.specs.declared.membership.Membership.{Membership}
use Rattle.pgp_ids.specs.declared.past.Past.{Past}
use Rattle.pgp_lists.specs.Ordered.{IsAscending}
use Rattle.pgp_lists.proofs.Bools.{same_tests}
use Rattle.pgp_lists.proofs.Members.{Contains-here, filter-contains, contains-filter, map-contains, contains-map, flat_map-contains, contains-flat_map, append-contains, contains-append, any-contains, contains-any}
use Rattle.pgp_lists.proofs.Ordered.{ascending-contains, contains-ascending, IsAscending-ascending, nat_order}
use Rattle.pgp_sets.specs.declared.status.Status.{Status}
use Rattle.pgp_sets.specs.declared.status.Status.TheVariants.{Up, Down}
use Rattle.pgp_prior.specs.declared.prior_set.Prior.{Prior}
use Rattle.pgp_prior.specs.MemberOrder.{member_order}
use Rattle.pgp_prior.specs.Members.{members_of}
use Rattle.pgp_prior.specs.Blocks.{is_up_status, is_down, matters, acting_where, down_osds, settled_slots, has_down, blocks}
use Rattle.pgp_prior.specs.Prior.{probe, blocked_by, is_group_down, prior_set, IsBlocking, IsProbed}

down_is : (status : Status) → is_down status ≡ true → status ≡ Down
down_is status is = grind arith

up_is : (status : Status) → is_up_status status ≡ true → status ≡ Up
up_is status is = grind arith

some_of : (list : List ℕ) → not (length list == 0) ≡ true → (osd : ℕ) × Contains list osd
some_of [] some = cc
some_of (osd ∷ list) some = (osd, Contains-here osd list)

of_some : (list : List ℕ) (osd : ℕ) → Contains list osd → not (length list == 0) ≡ true
of_some list osd in' = grind (arith, nat_tests)

-- ---- intervals that block

blocks_parts : (late suffices down : Bool) → late && not suffices && down ≡ true → (late ≡ true) × (suffices ≡ false) × (down ≡ true)
blocks_parts late suffices down blocking = grind arith

module _ (enough : List ℕ → Bool) (by_place : Bool) (status : ℕ → ℕ → Status) (les : ℕ) (past : List Past) where
  -- whether a member of an interval is down
  abbrev down_in : Past → Member → Bool
  down_in p member = is_down (status member.osd p.first)

  blocks-IsBlocking : (p : Past) (member : Member) → Contains past p → blocks enough by_place status les p ≡ true → Contains (members_of by_place p.members.acting) member → down_in p member ≡ true → IsBlocking enough by_place status les past p member
  blocks-IsBlocking p member there blocking acting down =
      let parts = blocks_parts (matters les p) (enough (settled_slots by_place status p)) (has_down by_place status p) blocking in
      record { there = there; matters = parts.0; short = parts.1; acting = acting; down = down_is _ down }

  IsBlocking-blocks : (p : Past) (member : Member) → IsBlocking enough by_place status les past p member → blocks enough by_place status les p ≡ true
  IsBlocking-blocks p member is = grind (arith, common_steps)

  pub down-IsBlocking : is_group_down enough by_place status les past ≡ true → (p : Past) × ((member : Member) × IsBlocking enough by_place status les past p member)
  down-IsBlocking down =
      let found = any-contains (blocks enough by_place status les) past down in
      let p : Past = found.0 in
      let one = any-contains (down_in p) (members_of by_place p.members.acting) (blocks_parts (matters les p) (enough (settled_slots by_place status p)) _ found.1.1).2 in
      (p, (one.0, blocks-IsBlocking p one.0 found.1.0 found.1.1 one.1.0 one.1.1))

  pub IsBlocking-down : (p : Past) (member : Member) → IsBlocking enough by_place status les past p member → is_group_down enough by_place status les past ≡ true
  IsBlocking-down p member is = contains-any (blocks enough by_place status les) past p is.there (IsBlocking-blocks p member is)

  -- ---- the devices that are waited for

  pub blocked_by-IsBlocking : (osd : ℕ) → Contains (blocked_by enough by_place status les past) osd → (p : Past) × ((member : Member) × (IsBlocking enough by_place status les past p member × (member.osd ≡ osd)))
  blocked_by-IsBlocking osd in' =
      let blocking : List Past = filter (blocks enough by_place status les) past in
      let found = flat_map-contains (down_osds by_place status) blocking osd (ascending-contains nat_lt _ osd in') in
      let p : Past = found.0 in
      let named = map-contains (λ (m : Member). m.osd) (acting_where is_down by_place status p) osd found.1.1 in
      let member : Member = named.0 in
      let kept = filter-contains (blocks enough by_place status les) past p found.1.0 in
      let one = filter-contains (down_in p) (members_of by_place p.members.acting) member named.1.0 in
      (p, (member, (blocks-IsBlocking p member kept.0 kept.1 one.0 one.1, named.1.1)))

  pub IsBlocking-blocked_by : (p : Past) (member : Member) → IsBlocking enough by_place status les past p member → Contains (blocked_by enough by_place status les past) member.osd
  IsBlocking-blocked_by p member is =
      let blocking : List Past = filter (blocks enough by_place status les) past in
      let down : List Member = acting_where is_down by_place status p in
      contains-ascending nat_lt nat_order (flat_map (down_osds by_place status) blocking) member.osd
      (contains-flat_map (down_osds by_place status) blocking p member.osd
      (contains-filter (blocks enough by_place status les) past p is.there (IsBlocking-blocks p member is))
      (contains-map (λ (m : Member). m.osd) down member
      (contains-filter (down_in p) (members_of by_place p.members.acting) member is.acting (ap is_down is.down))))

  pub IsAscending-blocked_by : IsAscending nat_lt (blocked_by enough by_place status les past)
  IsAscending-blocked_by = IsAscending-ascending nat_lt nat_order (flat_map (down_osds by_place status) (filter (blocks enough by_place status les) past))

  -- whether a device is waited for tells whether the group is down
  down-by_list : not (length (blocked_by enough by_place status les past) == 0) ≡ is_group_down enough by_place status les past
  down-by_list =
      same_tests _ _
      (λ some.
      let one = some_of (blocked_by enough by_place status les past) some in
      let found = blocked_by-IsBlocking one.0 one.1 in
      IsBlocking-down found.0 found.1.0 found.1.1.0)
      (λ down.
      let found = down-IsBlocking down in
      of_some (blocked_by enough by_place status les past) found.1.0.osd (IsBlocking-blocked_by found.0 found.1.0 found.1.1))

  -- the prior set, from its two lists
  pub prior-by_lists : (current : Membership) (members : List Member) (devices : List ℕ) (none : Bool) → members ≡ probe by_place status les past current
      → devices ≡ blocked_by enough by_place status les past → none ≡ (length devices == 0)
      → ◌≡◌ {A = Prior} (record { probe = members; blocked_by = devices; down = not none }) (prior_set enough by_place status les past current)
  prior-by_lists current members devices none heard waited empty =
      let down : not none ≡ is_group_down enough by_place status les past = ap not (empty ∙ ap (λ l. length l == 0) waited) ∙ down-by_list in
      rw (heard, waited, down) refl

-- ---- the members that have to be heard

module _ (by_place : Bool) (status : ℕ → ℕ → Status) (les : ℕ) (past : List Past) (current : Membership) where
  abbrev now : List Member
  now = members_of by_place current.up ++ members_of by_place current.acting

  abbrev then : List Member
  then = flat_map (acting_where is_up_status by_place status) (filter (matters les) past)

  abbrev up_in : Past → Member → Bool
  up_in p member = is_up_status (status member.osd p.first)

  pub probe-IsProbed : (member : Member) → Contains (probe by_place status les past current) member → IsProbed by_place status les past current member
  probe-IsProbed member in' = elim (append-contains now then member (ascending-contains is_before (now ++ then) member in')) [
    | inl current' ↦ grind (arith, append-contains (members_of by_place current.up) (members_of by_place current.acting) member current')
    | inr old ↦
        let found = flat_map-contains (acting_where is_up_status by_place status) (filter (matters les) past) member old in
        let p : Past = found.0 in
        let kept = filter-contains (matters les) past p found.1.0 in
        let one = filter-contains (up_in p) (members_of by_place p.members.acting) member found.1.1 in
        inr (inr (p, kept.0, kept.1, one.0, up_is _ one.1))
  ]

  IsProbed-there : (member : Member) → IsProbed by_place status les past current member → Contains (now ++ then) member
  IsProbed-there member (inl up) = contains-append now then member (inl (contains-append (members_of by_place current.up) _ member (inl up)))
  IsProbed-there member (inr (inl acting)) = contains-append now then member (inl (contains-append (members_of by_place current.up) _ member (inr acting)))
  IsProbed-there member (inr (inr old)) =
      let p : Past = old.0 in
      contains-append now then member
      (inr (contains-flat_map (acting_where is_up_status by_place status) (filter (matters les) past) p member
      (contains-filter (matters les) past p old.1 old.2)
      (contains-filter (up_in p) (members_of by_place p.members.acting) member old.3 (ap is_up_status old.4))))

  pub IsProbed-probe : (member : Member) → IsProbed by_place status les past current member → Contains (probe by_place status les past current) member
  IsProbed-probe member is = contains-ascending is_before member_order (now ++ then) member (IsProbed-there member is)

  pub IsAscending-probe : IsAscending is_before (probe by_place status les past current)
  IsAscending-probe = IsAscending-ascending is_before member_order (now ++ then)

-- ---- what the laws say

pub ruleset group_waits = (down-IsBlocking, IsBlocking-down, blocked_by-IsBlocking)

pub ruleset sets_ascend = (IsAscending-probe, IsAscending-blocked_by)
