-- The order of the members of a group: by device, and then by slot.
use Rattle.std.specs.Prelude.{Bool, nat_eq, ◌&&◌}
use Rattle.std.specs.declared.cmp.Ordering.{Ordering}
use Rattle.std.specs.Ordering.{nat_cmp, on, then_cmp, is_lt}
use Rattle.pgp_ids.specs.declared.member.Member.{Member}

-- how two members compare
abbrev pub member_cmp : Member → Member → Ordering
member_cmp = then_cmp (on (λ member. member.osd) nat_cmp) (on (λ member. member.slot) nat_cmp)

-- the first comes before the second
abbrev pub is_before : Member → Member → Bool
is_before a b = is_lt (member_cmp a b)

-- the device and the slot are the same
abbrev pub is_same_member : Member → Member → Bool
is_same_member a b = nat_eq a.osd b.osd && nat_eq a.slot b.slot
