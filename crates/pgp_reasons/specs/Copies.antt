-- Which copies may be followed, and whether they are enough (Ceph's developer documentation on last_epoch_started).
use Rattle.std.specs.Prelude.{ℕ, List, [], Option, Bool, ◌&&◌, nat_le, nat_lt, map, filter}
use Rattle.std.specs.Option.{option_map_or}
use Rattle.pgp_code.specs.declared.any.AnyCode.{AnyCode}
use Rattle.pgp_ids.specs.Member.{is_before}
use Rattle.pgp_ids.specs.declared.member.Member.{Member}
use Rattle.pgp_ids.specs.declared.report.Info.{Info}
use Rattle.pgp_lists.specs.Ordered.{ascending}
use Rattle.pgp_prior.specs.Members.{member_slots}
use Rattle.pgp_reasons.specs.Lacking.{lacking}
use Rattle.pgp_reasons.specs.declared.copies.Copies.{Copies}

-- the copy is complete, and served as late as the best one
abbrev pub is_as_good : Info → Info → Bool
is_as_good best info = info.complete && nat_le best.les info.les

-- the members of those of these infos whose copies are, if there is a best one
abbrev pub good_members : Option Info → List Info → List Member
good_members best infos =
    ascending is_before (map (λ info. info.member) (option_map_or (λ info. filter (is_as_good info) infos) best []))

-- the member has a slot that a pool may have
abbrev pub has_slot_number : Member → Bool
has_slot_number member = nat_lt member.slot 16

-- the slots of such members
abbrev pub numbered_slots : List Member → List ℕ
numbered_slots members = member_slots (filter has_slot_number members)

-- these members, and how many slots more than theirs the code needs
abbrev pub copies_of : AnyCode → Option Info → List Info → Copies
copies_of code best infos =
    record { members = good_members best infos; lacks = lacking code (numbered_slots (good_members best infos)) }
