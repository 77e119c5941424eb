-- What peering finds out about a placement group (Ceph's developer documentation on peering).
use Rattle.std.specs.Prelude.{List, [], Bool, not, ◌&&◌, ◌++◌, Option, Some, None, option_and_then, map, filter, filter_map, find, slice_get, if◌then◌else◌}
use Rattle.std.specs.List.{list_any}
use Rattle.std.specs.Option.{option_map_or}
use Rattle.pgp_code.specs.AnyCode.{enough_of, is_by_place}
use Rattle.pgp_ids.specs.Member.{is_before, is_same_member}
use Rattle.pgp_ids.specs.declared.member.Member.{Member}
use Rattle.pgp_ids.specs.declared.past.Past.{Past}
use Rattle.pgp_ids.specs.declared.peer.PeerMissing.{PeerMissing}
use Rattle.pgp_ids.specs.declared.report.Info.{Info}
use Rattle.pgp_info.specs.Best.{best_info}
use Rattle.pgp_interval.specs.Runs.{past_intervals}
use Rattle.pgp_missing.specs.Log.{is_whole}
use Rattle.pgp_missing.specs.Missing.{peer_state}
use Rattle.pgp_lists.specs.Ordered.{ascending}
use Rattle.pgp_prior.specs.Members.{members_of}
use Rattle.pgp_prior.specs.Prior.{prior_set}
use Rattle.pgp_prior.specs.declared.prior_set.Prior.{Prior}
use Rattle.pgp_sets.specs.Status.{status}
use Rattle.pgp_group.specs.GroupLog.{GroupLog, cleans, incs}
use Rattle.pgp_group.specs.Heard.{les, heard, reported}
use Rattle.pgp_group.specs.Prefers.{prefers}

-- the past intervals of the group, in ascending order
abbrev pub past : GroupLog → List Past
past g = past_intervals enough_of is_by_place (cleans g) g.history

-- whom the group has to hear, and for whom it has to wait
abbrev pub prior : GroupLog → Prior
prior g =
    prior_set (enough_of g.history.code) (is_by_place g.history.code) (status (incs g)) (les g) (past g) g.history.current

-- the members of up and of acting
abbrev pub up_members : GroupLog → List Member
up_members g = members_of (is_by_place g.history.code) g.history.current.up

abbrev pub acting_members : GroupLog → List Member
acting_members g = members_of (is_by_place g.history.code) g.history.current.acting

-- the member that leads: the first of acting
abbrev pub leader : GroupLog → Option Member
leader g = slice_get (acting_members g) 0

-- the info of the member whose copy is the one to follow
abbrev pub best : GroupLog → Option Info
best g = best_info (prefers g.history.code (leader g)) (heard g)

-- the log of this member, whose info is the best, is whole
abbrev pub has_whole_log : GroupLog → Info → Bool
has_whole_log g info = is_whole info (reported g info.member)

-- this info, where the log of its member is whole
abbrev pub if_whole : GroupLog → Info → Option Info
if_whole g info = if has_whole_log g info then Some info else None

-- the best info, where there is one and the log of its member is whole
abbrev pub whole_best : GroupLog → Option Info
whole_best g = option_and_then (if_whole g) (best g)

-- the members of up and acting, in ascending order, each once
abbrev pub present_members : GroupLog → List Member
present_members g = ascending is_before (up_members g ++ acting_members g)

-- the member's info among these
abbrev pub info_from : List Info → Member → Option Info
info_from infos member = find (λ info. is_same_member info.member member) infos

-- those of these members that are another than that of the best info and were heard, with their infos
abbrev pub others_heard : List Member → List Info → Info → List Info
others_heard members heard best = filter_map (info_from heard) (filter (λ member. not (is_same_member member best.member)) members)

-- the infos of the members of up and acting that were heard, except for the best one, in ascending order of the members
abbrev pub peers : GroupLog → Info → List Info
peers g best = others_heard (present_members g) (heard g) best

-- the member is one of up or acting, and another than that of the best info
abbrev pub is_peer : GroupLog → Info → Member → Bool
is_peer g best member =
    list_any (is_same_member member) (up_members g ++ acting_members g) && not (is_same_member member best.member)

-- how the copy of a peer compares with the best one
abbrev pub peer_missing : GroupLog → Info → Info → PeerMissing
peer_missing g best peer = record { member = peer.member; state = peer_state best (reported g best.member) peer }

-- the states of the peers, where there is a best info whose member's log is whole
abbrev pub peer_states : GroupLog → List PeerMissing
peer_states g =
    option_map_or (λ best. map (peer_missing g best) (peers g best)) (whole_best g) []
