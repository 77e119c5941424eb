-- What is said in words of a past interval that blocks a group.
use Rattle.std.specs.Prelude.{ℕ, ◌==◌, List, [], ◌∷◌, Bool, length, map, filter, Option, Some, None, codes, decimal, if◌then◌else◌}
use Rattle.pgp_ids.specs.Osds.{first_osd}
use Rattle.pgp_ids.specs.declared.member.Member.{Member}
use Rattle.pgp_prior.specs.Members.{members_of}
use Rattle.pgp_reasons.specs.Smallest.{holds}
use Rattle.pgp_reasons.specs.declared.blocking.Blocking.{Blocking}
use Rattle.pgp_reasons.specs.declared.fates.IntervalNow.{IntervalNow}
use Rattle.pgp_group_words.specs.Text.{Text, joined, line, listed}
use Rattle.pgp_group_words.specs.Names.{epoch_name, device_names, leader_name, member_name, places_name, are, plural}
use Rattle.pgp_group_words.specs.Spans.{interval_epochs}
use Rattle.pgp_group_words.specs.declared.page.Naming.{Naming}

-- why an interval may have gone read-write: a report that the group was clean in this epoch, or what the map recorded of its
-- primary
unfoldable pub read_write_line : Naming → Option ℕ → Option ℕ → Text
read_write_line naming (Some clean) primary =
    line (codes "  it may have gone read-write: a report says that the group was clean in epoch " ∷ epoch_name naming.offset clean ∷ [])
read_write_line naming None primary =
    line (codes "  it may have gone read-write: the map recorded that its primary, " ∷ leader_name primary ∷ codes ", was up in it" ∷ [])

-- what it needs this many of
abbrev pub member_noun : Bool → ℕ → Text
member_noun by_place count = if by_place then plural count (codes "shard") (codes "shards") else plural count (codes "member") (codes "members")

-- when an interval was, who served, and what it needs
unfoldable pub waits_line : Naming → Blocking → Text
waits_line naming blocking = line (
    codes "It waits for the interval of "
    ∷ interval_epochs naming.offset blocking.interval
    ∷ codes " on "
    ∷ places_name blocking.interval.acting
    ∷ codes ", which needs "
    ∷ decimal blocking.lacks
    ∷ codes " more "
    ∷ member_noun naming.by_place blocking.lacks
    ∷ codes ":"
    ∷ [])

-- its members that are down
abbrev pub down_members : Bool → IntervalNow → List Member
down_members by_place interval = filter (λ member. holds interval.down member.osd) (members_of by_place interval.acting)

unfoldable pub down_line : Naming → IntervalNow → Text
down_line naming interval = line (
    codes "  "
    ∷ listed (map (member_name naming) (down_members naming.by_place interval))
    ∷ codes " "
    ∷ are (length (down_members naming.by_place interval))
    ∷ codes " down"
    ∷ [])

-- what has become of others of its devices, if of any
unfoldable pub fate_line : Text → List ℕ → Text
fate_line fate osds =
    if length osds == 0 then []
    else line (codes "  " ∷ device_names osds ∷ codes " " ∷ plural (length osds) (codes "was") (codes "were") ∷ codes " " ∷ fate ∷ [])

-- an interval that blocks
unfoldable pub interval_lines : Naming → Blocking → Text
interval_lines naming blocking = joined (
    waits_line naming blocking
    ∷ down_line naming blocking.interval
    ∷ fate_line (codes "declared lost before it began, which doesn't count for it") blocking.interval.lost_before
    ∷ fate_line (codes "declared lost, and no longer waited for") blocking.interval.lost
    ∷ fate_line (codes "destroyed, and can't be waited for") blocking.interval.gone
    ∷ read_write_line naming blocking.clean (first_osd blocking.interval.acting)
    ∷ [])
