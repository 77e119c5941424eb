-- What a group waits for, in one sentence.
use Rattle.std.specs.Prelude.{ℕ, ◌-◌, ◌==◌, List, [], ◌∷◌, ◌++◌, not, nat_le, length, map, fold, filter, Option, Some, None, codes, decimal, if◌then◌else◌}
use Rattle.std.specs.List.{list_any}
use Rattle.pgp_group.specs.Heard.{has_member}
use Rattle.pgp_ids.specs.Osds.{osd_count}
use Rattle.pgp_ids.specs.Pool.{is_kind_by_place}
use Rattle.pgp_ids.specs.declared.member.Member.{Member}
use Rattle.pgp_ids.specs.declared.peer.PeerMissing.{PeerMissing}
use Rattle.pgp_ids.specs.declared.report.Info.{Info}
use Rattle.pgp_ids.specs.declared.verdict.Verdict.{Verdict}
use Rattle.pgp_ids.specs.declared.verdict.Verdict.TheVariants.{NoPrimary, Down, Waiting, Incomplete, Short, NeedLog, NeedUpThru, Serve}
use Rattle.pgp_reasons.specs.declared.fates.IntervalNow.{IntervalNow}
use Rattle.pgp_reasons.specs.declared.gap.Gap.{Gap}
use Rattle.pgp_reasons.specs.declared.reasons.Reasons.{Reasons}
use Rattle.pgp_group_words.specs.Text.{Text, joined, listed}
use Rattle.pgp_group_words.specs.Lags.{lags, laggard_name}
use Rattle.pgp_group_words.specs.Names.{epoch_name, device_names, leader_name, member_name, are, plural}
use Rattle.pgp_group_words.specs.Spans.{interval_epochs, epochs_name, writes_name}
use Rattle.pgp_group_words.specs.declared.explanation.Explanation.{Explanation}
use Rattle.pgp_group_words.specs.declared.page.Naming.{Naming}
use Rattle.pgp_group_words.specs.declared.offset.EpochOffset.{EpochOffset}

-- how the members and epochs of a group are told
abbrev pub naming_of : Explanation → EpochOffset → Naming
naming_of explanation offset = record { by_place = is_kind_by_place explanation.pool.kind; offset = offset }

-- the members that have to be heard and haven't been, in ascending order
unfoldable pub unheard_of : Explanation → List Member
unheard_of explanation = filter (λ member. not (has_member member explanation.reasons.heard)) explanation.view.probe

-- writes may be on devices that are down alone
unfoldable pub on_down : Naming → Explanation → Text
on_down naming explanation = joined (
    codes "It waits for "
    ∷ device_names explanation.view.blocked_by
    ∷ codes ", which "
    ∷ are (length explanation.view.blocked_by)
    ∷ codes " down: writes may have been taken in "
    ∷ epochs_name naming.offset explanation.reasons.blocking
    ∷ codes ", and too few of the devices that took them are up."
    ∷ [])

-- members that are up haven't told of their copies
unfoldable pub on_waiting : Naming → Explanation → Text
on_waiting naming explanation = joined (codes "It has yet to hear from " ∷ listed (map (member_name naming) (unheard_of explanation)) ∷ codes "." ∷ [])

-- of two infos the one that knows of the later epoch in which the group served; the second, where both know of the same
abbrev pub later_of : Info → Info → Info
later_of a b = if nat_le a.history_les b.history_les then b else a

-- the info that knows of the last epoch in which the group served
abbrev pub informed : List Info → Option Info
informed [] = None
informed (info ∷ infos) = Some (fold later_of info infos)

-- the same, where one of the infos is of a complete copy
abbrev pub informed_beside_complete : List Info → Option Info
informed_beside_complete infos = if list_any (λ info. info.complete) infos then informed infos else None

-- complete copies are older than what this info knows of
unfoldable pub not_recent : Naming → Info → Text
not_recent naming info = joined (
    codes "No copy that was heard of is complete and recent enough: "
    ∷ member_name naming info.member
    ∷ codes " knows that the group served in epoch "
    ∷ epoch_name naming.offset info.history_les
    ∷ codes ", and no complete copy has served since."
    ∷ [])

abbrev pub none_recent : Naming → Option Info → Text
none_recent naming None = codes "No complete copy was heard of."
none_recent naming (Some info) = not_recent naming info

-- the acting set has too few members
unfoldable pub few_members : (members min_size : ℕ) → Text
few_members members min_size = joined (
    codes "Its acting set has "
    ∷ decimal members
    ∷ codes " "
    ∷ plural members (codes "member") (codes "members")
    ∷ codes ", and needs at least "
    ∷ decimal min_size
    ∷ codes ": it needs "
    ∷ decimal (min_size - members)
    ∷ codes " more "
    ∷ plural (min_size - members) (codes "device") (codes "devices")
    ∷ codes "."
    ∷ [])

-- its members are enough, and hold too few shards
unfoldable pub few_shards : ℕ → Text
few_shards lacks = joined (
    codes "The members of its acting set hold too few shards to give objects back: it needs "
    ∷ decimal lacks
    ∷ codes " more "
    ∷ plural lacks (codes "shard") (codes "shards")
    ∷ codes "."
    ∷ [])

-- either of these
abbrev pub few : Explanation → Text
few explanation =
    if nat_le explanation.pool.min_size (osd_count explanation.view.acting) then few_shards explanation.reasons.short.lacks
    else few_members (osd_count explanation.view.acting) explanation.pool.min_size

-- what is said of these devices, if of any: what stands before their names, and behind them
abbrev pub osds_part : Text → List ℕ → Text → Text
osds_part before osds after = if length osds == 0 then [] else joined (before ∷ device_names osds ∷ after ∷ [])

-- who of those that served the group last is down
abbrev pub fallen_part : List ℕ → Text
fallen_part osds = osds_part (codes " Of those that served it last, ") osds (plural (length osds) (codes " is down.") (codes " are down."))

-- who of those that were complete when the group was last clean is down
unfoldable pub held_part : Naming → IntervalNow → Text
held_part naming interval = joined (
    codes " Of those that were complete in "
    ∷ interval_epochs naming.offset interval
    ∷ codes ", when it was last clean, "
    ∷ device_names interval.down
    ∷ codes " "
    ∷ are (length interval.down)
    ∷ codes " down."
    ∷ [])

-- the same, or else who of those that served the group last is down
abbrev pub clean_part : Naming → Option IntervalNow → List ℕ → Text
clean_part naming None fallen = fallen_part fallen
clean_part naming (Some interval) fallen = if length interval.down == 0 then fallen_part fallen else held_part naming interval

-- who might be started
abbrev pub starters_part : Naming → Reasons → Text
starters_part naming reasons = clean_part naming reasons.clean reasons.short.fallen

-- nobody leads it
unfoldable pub on_no_primary : Naming → Reasons → Text
on_no_primary naming reasons = codes "No device of its acting set is up, so nobody leads it." ++ starters_part naming reasons

-- no copy may be followed
unfoldable pub on_incomplete : Naming → Reasons → Text
on_incomplete naming reasons = none_recent naming (informed_beside_complete reasons.heard) ++ starters_part naming reasons

-- the acting set has too few members, or they hold too few shards; and who might be started
unfoldable pub on_short : Explanation → Text
on_short explanation = few explanation ++ fallen_part explanation.reasons.short.fallen

-- the log of this member lacks these numbers of writes, or none, and is wrong all the same
unfoldable pub log_words : Naming → Member → List Gap → Text
log_words naming best gaps =
    if length gaps == 0 then joined (codes "The log of " ∷ member_name naming best ∷ codes ", which has the best copy, is not in order." ∷ [])
    else joined (codes "The log of " ∷ member_name naming best ∷ codes ", which has the best copy, lacks the " ∷ writes_name gaps ∷ codes "." ∷ [])

-- entries of the log by which objects are brought up to date haven't been reported
abbrev pub on_log : Naming → Option Member → List Gap → Text
on_log naming None gaps = codes "The log of its best copy is not whole."
on_log naming (Some best) gaps = log_words naming best gaps

-- the map doesn't say yet that writes may be taken in this interval
unfoldable pub on_up_thru : Naming → Option ℕ → ℕ → Text
on_up_thru naming primary first = joined (
    codes "The map has yet to record that "
    ∷ leader_name primary
    ∷ codes ", which leads it, is up in this interval: up_thru "
    ∷ epoch_name naming.offset first
    ∷ codes " or later."
    ∷ [])

-- who lacks something of the best copy
unfoldable pub behind_part : Naming → List PeerMissing → Text
behind_part naming laggards =
    if length laggards == 0 then [] else joined (codes " " ∷ listed (map (laggard_name naming) laggards) ∷ codes "." ∷ [])

-- too few complete copies were heard
unfoldable pub unread_part : ℕ → Text
unread_part lacks =
    if lacks == 0 then []
    else joined (
    codes " Too few complete copies were heard to read all that was written: it needs "
    ∷ decimal lacks
    ∷ codes " more."
    ∷ [])

-- it serves, and members that lag behind catch up
unfoldable pub on_serving : Naming → Explanation → Text
on_serving naming explanation = joined (
    joined (codes "It serves, led by " ∷ leader_name explanation.view.acting_primary ∷ codes "." ∷ [])
    ∷ unread_part explanation.reasons.copies.lacks
    ∷ behind_part naming (filter lags explanation.view.missing)
    ∷ [])

-- the sentence on this verdict
abbrev pub sentence_on : Verdict → Naming → Explanation → Text
sentence_on NoPrimary naming explanation = on_no_primary naming explanation.reasons
sentence_on Down naming explanation = on_down naming explanation
sentence_on Waiting naming explanation = on_waiting naming explanation
sentence_on Incomplete naming explanation = on_incomplete naming explanation.reasons
sentence_on Short naming explanation = on_short explanation
sentence_on NeedLog naming explanation = on_log naming explanation.view.best explanation.reasons.gaps
sentence_on NeedUpThru naming explanation = on_up_thru naming explanation.view.acting_primary explanation.view.first
sentence_on Serve naming explanation = on_serving naming explanation

-- the sentence on the verdict of a group
unfoldable pub sentence_of : Naming → Explanation → Text
sentence_of naming explanation = sentence_on explanation.view.verdict naming explanation
