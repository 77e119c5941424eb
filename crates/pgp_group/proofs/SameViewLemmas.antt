-- A group whose intervals, reports and devices are the same in two logs has the same view, except for count and epoch.
use Rattle.pgp_group.proofs.Common.{◌≡◌, ℕ, arith, List, [], ◌++◌, Option, Some, None, is_none, Bool, true, not, ◌&&◌, nat_eq, nat_lt, length, map, fold, max, refl, ap, ap₂, ◌∙◌, if◌then◌else◌, Contains, filter, find, flat_map, list_any, range_with_len, slice_index_or, filter_map, option_and_then, option_map, option_map_or, unwrap_or, or-true, nat_tests, enough_of, is_by_place, enough_of-mono, AnyCode, is_same_member, Entry, EpochState, Member, Membership, Past, PgId, Info, Report, Verdict, History, current_first, contains-any, filter-contains, map_some, device, epoch, is_whole, held_member, members_of, prior_set, blocks-same, ascending, is_before, status, status_by, Status, incs_of, GroupLog, group_with, infos, reports, incs, has_member, is_counted, heard, last_of_each_member, les, reported, past, prior, best, whole_best, peer_states, has_osd, was_member, names, view_at, verdict_holds, in_order, needs_up_thru, is_short, view_of}
use Rattle.pgp_ids.specs.declared.verdict.Verdict.TheVariants as the
use Rattle.pgp_prior.specs.Blocks as block
use Rattle.pgp_group.specs.Peering.{info_from}
use Rattle.pgp_lists.proofs.Members.{any-agree}
use Rattle.pgp_group.proofs.Lists.{filter-agree, flat_map-agree, filter_map-contains, index-contains, any-found}
use Rattle.pgp_group.proofs.PeerLemmas.{compared}
use Rattle.pgp_group.proofs.UntoldLemmas.{osd-there}
use Rattle.pgp_group.proofs.PartLemmas.{present-is}

-- ---- a group that is alike in two logs

-- both have the same code, membership and intervals, and the same is known of their members
pub record AreAlike (g after : GroupLog) : Type 0 where
  pub code : after.history.code ≡ g.history.code
  pub current : after.history.current ≡ g.history.current
  pub first : current_first after.history ≡ current_first g.history
  pub past : past after ≡ past g
  pub les : les after ≡ les g
  pub prior : prior after ≡ prior g
  pub heard : (member : Member) → info_from (heard after) member ≡ info_from (heard g) member
  pub best : best after ≡ best g
  pub reported : (member : Member) → reported after member ≡ reported g member
  pub thru : needs_up_thru after ≡ needs_up_thru g

module _ (g after : GroupLog) (same : AreAlike g after) where
  has_member-same : (member : Member) → has_member member (heard after) ≡ has_member member (heard g)
  has_member-same member = grind (arith, nat_tests, any-found)

  whole_best-same : whole_best after ≡ whole_best g
  whole_best-same = λ i. option_and_then (λ info. if is_whole info (same.reported info.member i) then Some info else None) (same.best i)

  states-same : peer_states after ≡ peer_states g
  states-same =
      let present = present-is g (is_by_place after.history.code) after.history.current (ap is_by_place same.code) same.current in
      λ i. option_map_or (λ best. map (compared (same.reported best.member i) best)
      (filter_map (λ member. same.heard member i) (filter (λ member. not (is_same_member member best.member)) (present i))))
      (whole_best-same i) []

  holds-same : (v : Verdict) → verdict_holds after v ≡ verdict_holds g v
  holds-same the.NoPrimary = λ i. is_none (same.current i).acting_primary
  holds-same the.Down = λ i. (same.prior i).down
  holds-same the.Waiting = λ i. list_any (λ member. not (has_member-same member i)) (same.prior i).probe
  holds-same the.Incomplete = λ i. is_none (same.best i)
  holds-same the.Short = λ i. is_short (record g { history = record g.history { code = same.code i; current = same.current i } })
  holds-same the.NeedLog = λ i. is_none (whole_best-same i)
  holds-same the.NeedUpThru = same.thru
  holds-same the.Serve = refl

  -- so its views differ in count and epoch alone
  pub view-alike : view_of after ≡ view_at (length after.log) (epoch (incs after)) (view_of g)
  view-alike = λ i. record {
    count = length after.log;
    epoch = epoch (incs after);
    up = (same.current i).up;
    up_primary = (same.current i).up_primary;
    acting = (same.current i).acting;
    acting_primary = (same.current i).acting_primary;
    first = same.first i;
    intervals = same.past i;
    les = same.les i;
    probe = (same.prior i).probe;
    blocked_by = (same.prior i).blocked_by;
    verdict = unwrap_or (find (λ v. holds-same v i) in_order) the.Serve;
    best = option_map (λ info. info.member) (same.best i);
    missing = states-same i;
  }

-- ---- prior sets by statuses that agree on the members of the past intervals

abbrev Agrees : Bool → (ℕ → ℕ → Status) → (ℕ → ℕ → Status) → Past → Type 0
Agrees by_place old now p = (member : Member) → Contains (members_of by_place p.members.acting) member → now member.osd p.first ≡ old member.osd p.first

where-same : (test : Status → Bool) (by_place : Bool) (old now : ℕ → ℕ → Status) (p : Past) → Agrees by_place old now p → block.acting_where test by_place now p ≡ block.acting_where test by_place old p
where-same test by_place old now p agree =
    filter-agree (λ (m : Member). test (now m.osd p.first)) (λ (m : Member). test (old m.osd p.first)) (members_of by_place p.members.acting) (λ m there. ap test (agree m there))

prior-same : (code : AnyCode) (old now : ℕ → ℕ → Status) (les : ℕ) (past : List Past) (current : Membership)
    → ((p : Past) → Contains past p → Agrees (is_by_place code) old now p)
    → prior_set (enough_of code) (is_by_place code) now les past current
    ≡ prior_set (enough_of code) (is_by_place code) old les past current
prior-same code old now les past current agree =
    let by_place : Bool = is_by_place code in
    let was : Past → Bool = block.blocks (enough_of code) by_place old les in
    let is : Past → Bool = block.blocks (enough_of code) by_place now les in
    let blocked : (p : Past) → Contains past p → is p ≡ was p = λ p there. blocks-same by_place (enough_of code) (enough_of-mono code) les now old p (agree p there) in
    let ups = flat_map-agree (block.acting_where block.is_up_status by_place now) (block.acting_where block.is_up_status by_place old) (filter (block.matters les) past)
    (λ p there. where-same block.is_up_status by_place old now p (agree p ((filter-contains (block.matters les) past p there).0))) in
    let downs = ap (flat_map (block.down_osds by_place now)) (filter-agree is was past blocked)
    ∙ flat_map-agree (block.down_osds by_place now) (block.down_osds by_place old) (filter was past)
    (λ p there. ap (map (λ (m : Member). m.osd))
    (where-same block.is_down by_place old now p (agree p ((filter-contains was past p there).0)))) in
    let any = any-agree is was past blocked in
    λ i. record {
      probe = ascending is_before (members_of by_place current.up ++ members_of by_place current.acting ++ ups i);
      blocked_by = ascending nat_lt (downs i);
      down = any i;
    }

-- the device of a member stands in the list
member-there : (by_place : Bool) (places : List (Option ℕ)) (member : Member) → Contains (members_of by_place places) member → has_osd member.osd places ≡ true
member-there by_place places member there =
    let at = filter_map-contains (held_member by_place places) (range_with_len 0 (length places)) member there in
    let found = map_some (λ osd. record { osd = osd; slot = if by_place then at.0 else 0 }) (slice_index_or places at.0 None) member at.1 in
    let is : found.0 ≡ member.osd = ap (λ (m : Member). m.osd) found.2 in
    osd-there places member.osd (index-contains places at.0 member.osd (found.1 ∙ ap Some is))

-- ---- a group that stays as it was, in two logs

-- The history has the same intervals with other epochs lived, the same was reported, and the devices of which the group
-- speaks are as they were.
pub record IsSame (log after : List Entry) (pg : PgId) (h : History AnyCode) (lived : List EpochState) : Type 0 where
  pub first : current_first (record h { lived = lived }) ≡ current_first h
  pub past : past (group_with after pg (record h { lived = lived })) ≡ past (group_with log pg h)
  pub infos : infos (group_with after pg (record h { lived = lived })) ≡ infos (group_with log pg h)
  pub reports : reports (group_with after pg (record h { lived = lived })) ≡ reports (group_with log pg h)
  pub named : (osd : ℕ) → names osd (group_with log pg h) ≡ true → device (incs_of after) osd ≡ device (incs_of log) osd
  pub leads : (osd : ℕ) → h.current.acting_primary ≡ Some osd → device (incs_of after) osd ≡ device (incs_of log) osd

-- the group in the second log
abbrev lives : List Entry → PgId → History AnyCode → List EpochState → GroupLog
lives after pg h lived = group_with after pg (record h { lived = lived })

-- whom it names

named_past : (log : List Entry) (pg : PgId) (h : History AnyCode) (p : Past) (member : Member) → Contains (past (group_with log pg h)) p → Contains (members_of (is_by_place h.code) p.members.acting) member → names member.osd (group_with log pg h) ≡ true
named_past log pg h p member there stood =
    let acted : has_osd member.osd p.members.acting ≡ true = member-there (is_by_place h.code) p.members.acting member stood in
    let was : was_member member.osd p ≡ true = rw (acted, or-true) refl in
    grind (arith, contains-any (was_member member.osd) (past (group_with log pg h)) p there was)

-- who sent one of these is of a device that did
sent-by : {X : Type 0} (sender : X → Member) (sent : List X) (x : X) → Contains sent x → list_any (λ y. nat_eq (sender y).osd (sender x).osd) sent ≡ true
sent-by sender sent x there = contains-any (λ y. nat_eq (sender y).osd (sender x).osd) sent x there (grind (arith, nat_tests))

named_info : (log : List Entry) (pg : PgId) (h : History AnyCode) (info : Info) → Contains (infos (group_with log pg h)) info → names info.member.osd (group_with log pg h) ≡ true
named_info log pg h info there = rw (sent-by (λ (i : Info). i.member) (infos (group_with log pg h)) info there, or-true) refl

named_report : (log : List Entry) (pg : PgId) (h : History AnyCode) (report : Report) → Contains (reports (group_with log pg h)) report → names report.member.osd (group_with log pg h) ≡ true
named_report log pg h report there = rw (sent-by (λ (r : Report). r.member) (reports (group_with log pg h)) report there, or-true) refl

-- whom it has heard

counted-same : (log after : List Entry) (pg : PgId) (h : History AnyCode) (lived : List EpochState) → IsSame log after pg h lived → (member : Member) (stamp : ℕ) → names member.osd (group_with log pg h) ≡ true
    → is_counted (lives after pg h lived) member stamp ≡ is_counted (group_with log pg h) member stamp
counted-same log after pg h lived same member stamp named = grind arith

heard-same : (log after : List Entry) (pg : PgId) (h : History AnyCode) (lived : List EpochState) → IsSame log after pg h lived → heard (lives after pg h lived) ≡ heard (group_with log pg h)
heard-same log after pg h lived same =
    ap (λ (told : List Info). last_of_each_member (filter (λ info. is_counted (lives after pg h lived) info.member info.stamp) told)) same.infos
    ∙ ap last_of_each_member (filter-agree (λ (info : Info). is_counted (lives after pg h lived) info.member info.stamp) (λ (info : Info). is_counted (group_with log pg h) info.member info.stamp) (infos (group_with log pg h))
    (λ info there. counted-same log after pg h lived same info.member info.stamp (named_info log pg h info there)))

reported-same : (log after : List Entry) (pg : PgId) (h : History AnyCode) (lived : List EpochState) → IsSame log after pg h lived → (member : Member) → reported (lives after pg h lived) member ≡ reported (group_with log pg h) member
reported-same log after pg h lived same member =
    ap (λ (told : List Report). flat_map (λ report. report.log) (filter (λ report. is_same_member report.member member && is_counted (lives after pg h lived) report.member report.stamp) told)) same.reports
    ∙ ap (flat_map (λ (report : Report). report.log))
    (filter-agree (λ (report : Report). is_same_member report.member member && is_counted (lives after pg h lived) report.member report.stamp) (λ (report : Report). is_same_member report.member member && is_counted (group_with log pg h) report.member report.stamp) (reports (group_with log pg h))
    (λ report there. ap (λ (b : Bool). is_same_member report.member member && b) (counted-same log after pg h lived same report.member report.stamp (named_report log pg h report there))))

-- what it finds out

prior_set-same : (log after : List Entry) (pg : PgId) (h : History AnyCode) (lived : List EpochState) → IsSame log after pg h lived → prior (lives after pg h lived) ≡ prior (group_with log pg h)
prior_set-same log after pg h lived same =
    let g : GroupLog = group_with log pg h in
    ap₂ (λ (told : List Info) (intervals : List Past). prior_set (enough_of h.code) (is_by_place h.code) (status (incs_of after)) (fold max 0 (map (λ info. info.history_les) told)) intervals h.current) same.infos same.past
    ∙ prior-same h.code (status (incs_of log)) (status (incs_of after)) (les g) (past g) h.current
    (λ p there member stood. let dev = same.named member.osd (named_past log pg h p member there stood) in λ i. status_by (dev i).is_up (dev i).exists (dev i).lost_at p.first)

pub view-same : (log after : List Entry) (pg : PgId) (h : History AnyCode) (lived : List EpochState) → IsSame log after pg h lived
    → view_of (lives after pg h lived) ≡ view_at (length after) (epoch (incs_of after)) (view_of (group_with log pg h))
view-same log after pg h lived same =
    let heard' = heard-same log after pg h lived same in
    view-alike (group_with log pg h) (lives after pg h lived) (grind (arith, prior_set-same log after pg h lived same, reported-same log after pg h lived same))
