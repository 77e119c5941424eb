-- A group that is alike in two logs has the same view in both, except for the number of entries and past intervals that ended before
-- it last began to serve.
use Rattle.pgp_group.proofs.Common.{◌≡◌, ℕ, ◌≤◌, List, [], ◌++◌, ◌∷◌, Bool, true, false, not, ◌&&◌, Option, Some, None, is_none, nat_eq, nat_le, nat_lt, length, fold, map, max, refl, ap, sym, ◌∙◌, arith, cases_Bool, nat_tests, if◌then◌else◌, filter, find, flat_map, list_any, range_with_len, slice_get, option_and_then, option_map, option_map_or, unwrap_or, same_Some, enough_of, is_by_place, code_of, AnyCode, Entry, Incremental, Info, Member, Membership, Past, PgId, PoolSpec, Report, Verdict, History, is_before, is_same_member, is_whole, members_of, prior_set, status, is_up, epoch, pool, temp, has_group, membership, pool_membership, members_with, best_info, ascending, incs_of, infos_of, reports_of, group_history, group_with, GroupLog, has_member, heard, infos, is_counted, is_same_group, last_of_each_member, les, others_heard, past, best, peer_states, prior, reported, reports, view_of, whole_best, verdict_holds, in_order, is_short}
use Rattle.pgp_ids.specs.declared.verdict.Verdict.TheVariants as the
use Rattle.pgp_ids.specs.Pool.{is_kind_by_place as has_places}
use Rattle.pgp_crush.specs.Bucket.{Bucket}
use Rattle.pgp_crush.specs.Placement.{placement}
use Rattle.pgp_map.specs.Devices.{weights}
use Rattle.pgp_map.specs.Map.{tree}
use Rattle.pgp_missing.specs.Missing.{peer_state}
use Rattle.pgp_prior.specs.Blocks.{acting_where, blocks, down_osds, matters}
use Rattle.pgp_prior.specs.Blocks.{is_up_status}
use Rattle.pgp_sets.specs.declared.status.Status.{Status}
use Rattle.pgp_sets.specs.Sets.{placement_input, rule_of}
use Rattle.pgp_sets.specs.Status.{status_by}
use Rattle.pgp_group.specs.Prefers.{prefers}
use Rattle.pgp_group.proofs.HistoryLemmas.{history_if, history-current}
use Rattle.pgp_map.specs.Alike.{SayTheSame}
use Rattle.pgp_join.specs.Alike.{IsAlike, IsAlikeView, ending_from}
use Rattle.pgp_join.proofs.MapLemmas.{exists-alike, from-alike, lost-alike, thru-alike, up-alike}

-- ---- where a group lies

keep_up : (ℕ → Bool) → PoolSpec → List (Option ℕ) → List (Option ℕ)
keep_up up made places =
    if has_places made.kind then map (λ place. if option_map_or up place false then place else None) places
    else filter (λ place. option_map_or up place false) places

lies_by : (ℕ → Bool) → Option (List Bucket) → List ℕ → List (Option ℕ) → PgId → PoolSpec → Membership
unfolding keep_up
lies_by up tree weights given pg made =
    let ups : List (Option ℕ) = keep_up up made (placement tree (rule_of made) weights (placement_input made pg) made.size) in
    members_with made ups (let chosen : List (Option ℕ) = keep_up up made given in if nat_eq (length chosen) 0 then ups else chosen)

lies : (incs : List Incremental) (pg : PgId) (made : PoolSpec) → pool_membership incs pg made ≡ lies_by (is_up incs) (tree incs) (weights incs) (temp incs pg) pg made
unfolding keep_up lies_by
lies incs pg made = refl

pub members-alike : (incs others : List Incremental) → SayTheSame incs others → (pg : PgId) → membership others pg ≡ membership incs pg
members-alike incs others alike pg =
    (λ i. option_map (λ made. lies others pg made i) (pool others pg.pool))
    ∙ (λ i. option_map (lies_by (λ osd. up-alike incs others alike osd i) (alike.tree_is i) (map (λ osd. alike.weight_is osd i) (range_with_len 0 4096)) (alike.temp_is pg i) pg) (alike.pool_is pg.pool i))
    ∙ sym (λ i. option_map (λ made. lies incs pg made i) (pool incs pg.pool))

-- ---- past intervals that end with an epoch or later

-- a test that only these pass
kept : (test : Past → Bool) (from : ℕ) → ((p : Past) → test p ≡ true → from ≤ p.last) → (past : List Past) → filter test (ending_from from past) ≡ filter test past
kept test from late [] = refl
kept test from late (p ∷ past) = grind (arith, nat_tests, cases_Bool (test p), late p, kept test from late past)

kept-any : (test : Past → Bool) (from : ℕ) → ((p : Past) → test p ≡ true → from ≤ p.last) → (past : List Past) → list_any test (ending_from from past) ≡ list_any test past
kept-any test from late [] = refl
kept-any test from late (p ∷ past) = grind (arith, nat_tests, cases_Bool (test p), late p, kept-any test from late past)

ending-later : (from les : ℕ) → from ≤ les → (past : List Past) → ending_from les (ending_from from past) ≡ ending_from les past
ending-later from les later past = kept (λ p. nat_le les p.last) from (λ p late. grind (arith, nat_tests)) past

-- what ends alike from an epoch on does so from a later one on
pub ending-alike : (from les : ℕ) → from ≤ les → (past others : List Past) → ending_from from others ≡ ending_from from past → ending_from les others ≡ ending_from les past
ending-alike from les later past others same = sym (ending-later from les later others) ∙ ap (ending_from les) same ∙ ending-later from les later past

-- whom a group has to hear, and for whom it has to wait, by these alone
prior-kept : (enough : List ℕ → Bool) (by_place : Bool) (statuses : ℕ → ℕ → Status) (from les : ℕ) → from ≤ les → (past : List Past) (current : Membership)
    → prior_set enough by_place statuses les past current ≡ prior_set enough by_place statuses les (ending_from from past) current
prior-kept enough by_place statuses from les later past current =
    let mattering = kept (matters les) from (λ p passes. grind (arith, nat_tests)) past in
    let blocking = kept (blocks enough by_place statuses les) from (λ p passes. grind (arith, nat_tests)) past in
    let any = kept-any (blocks enough by_place statuses les) from (λ p passes. grind (arith, nat_tests)) past in
    λ i. record {
      probe = ascending is_before (members_of by_place current.up ++ members_of by_place current.acting ++ flat_map (acting_where is_up_status by_place statuses) (sym mattering i));
      blocked_by = ascending nat_lt (flat_map (down_osds by_place statuses) (sym blocking i));
      down = sym any i;
    }

-- ---- the view

module _ (log other : List Entry) (pg : PgId) (h h' : History AnyCode) (maps : SayTheSame (incs_of log) (incs_of other))
    (is : group_history (incs_of log) pg ≡ Some h) (is' : group_history (incs_of other) pg ≡ Some h') (told : infos_of other ≡ infos_of log) (sent : reports_of other ≡ reports_of log)
    (alike : IsAlike (group_with log pg h) (group_with other pg h')) where
  abbrev g : GroupLog
  g = group_with log pg h

  abbrev o : GroupLog
  o = group_with other pg h'

  infos-are : infos o ≡ infos g
  infos-are = ap (filter (λ (info : Info). is_same_group info.pg pg)) told

  reports-are : reports o ≡ reports g
  reports-are = ap (filter (λ (report : Report). is_same_group report.pg pg)) sent

  pub les-is : les o ≡ les g
  les-is = ap (λ (l : List Info). fold max 0 (map (λ info. info.history_les) l)) infos-are

  pub current-is : h'.current ≡ h.current
  current-is = same_Some h'.current h.current (sym (history-current (incs_of other) pg h' is') ∙ members-alike (incs_of log) (incs_of other) maps pg ∙ history-current (incs_of log) pg h is)

  pub code-is : h'.code ≡ h.code
  code-is =
      let made = history_if (incs_of log) pg (pool (incs_of log) pg.pool) h (has_group (incs_of log) pg) is in
      let made' = history_if (incs_of other) pg (pool (incs_of other) pg.pool) h' (has_group (incs_of other) pg) is' in
      let same : made'.0 ≡ made.0 = same_Some made'.0 made.0 (sym made'.1.0 ∙ maps.pool_is pg.pool ∙ made.1.0) in
      ap (λ (t : History AnyCode). t.code) (sym made'.1.1) ∙ ap (λ (p : PoolSpec). code_of p.kind) same ∙ ap (λ (t : History AnyCode). t.code) made.1.1

  counted-is : (member : Member) (stamp : ℕ) → is_counted o member stamp ≡ is_counted g member stamp
  counted-is member stamp =
      grind (arith, nat_tests, alike.first_is, up-alike (incs_of log) (incs_of other) maps member.osd, from-alike (incs_of log) (incs_of other) maps member.osd)

  heard-is : heard o ≡ heard g
  heard-is = λ i. last_of_each_member (filter (λ info. counted-is info.member info.stamp i) (infos-are i))

  reported-is : (member : Member) → reported o member ≡ reported g member
  reported-is member = λ i. flat_map (λ report. report.log) (filter (λ report. is_same_member report.member member && counted-is report.member report.stamp i) (reports-are i))

  best-is : best o ≡ best g
  best-is = λ i. best_info (prefers (code-is i) (slice_get (members_of (is_by_place (code-is i)) (current-is i).acting) 0)) (heard-is i)

  whole_best-is : whole_best o ≡ whole_best g
  whole_best-is = λ i. option_and_then (λ info. if is_whole info (reported-is info.member i) then Some info else None) (best-is i)

  states-are : peer_states o ≡ peer_states g
  states-are = λ i. option_map_or
      (λ best. map (λ peer. record { member = peer.member; state = peer_state best (reported-is best.member i) peer })
      (others_heard (ascending is_before (members_of (is_by_place (code-is i)) (current-is i).up ++ members_of (is_by_place (code-is i)) (current-is i).acting)) (heard-is i) best))
      (whole_best-is i) []

  prior-is : prior o ≡ prior g
  prior-is =
      prior-kept (enough_of h'.code) (is_by_place h'.code) (status (incs_of other)) (les g) (les o) (omega (arith, les-is)) (past o) h'.current
      ∙ (λ i. prior_set (enough_of (code-is i)) (is_by_place (code-is i))
      (λ osd first. status_by (up-alike (incs_of log) (incs_of other) maps osd i) (exists-alike (incs_of log) (incs_of other) maps osd i) (lost-alike (incs_of log) (incs_of other) maps osd i) first)
      (les-is i) (alike.past_are i) (current-is i))
      ∙ sym (prior-kept (enough_of h.code) (is_by_place h.code) (status (incs_of log)) (les g) (les g) (omega arith) (past g) h.current)

  holds-is : (v : Verdict) → verdict_holds o v ≡ verdict_holds g v
  holds-is the.NoPrimary = λ i. is_none (current-is i).acting_primary
  holds-is the.Down = λ i. (prior-is i).down
  holds-is the.Waiting = λ i. list_any (λ member. not (has_member member (heard-is i))) (prior-is i).probe
  holds-is the.Incomplete = λ i. is_none (best-is i)
  holds-is the.Short = λ i. is_short (record g { history = record h { code = code-is i; current = current-is i } })
  holds-is the.NeedLog = λ i. is_none (whole_best-is i)
  holds-is the.NeedUpThru = λ i. option_map_or (λ osd. nat_lt (thru-alike (incs_of log) (incs_of other) maps osd i) (alike.first_is i)) (current-is i).acting_primary true
  holds-is the.Serve = refl

  pub view-is : epoch (incs_of other) ≡ epoch (incs_of log) → IsAlikeView (view_of g) (view_of o)
  view-is epoch_is = record {
    rest = λ i. record {
      count = length other;
      epoch = epoch_is i;
      up = (current-is i).up;
      up_primary = (current-is i).up_primary;
      acting = (current-is i).acting;
      acting_primary = (current-is i).acting_primary;
      first = alike.first_is i;
      intervals = past o;
      les = les-is i;
      probe = (prior-is i).probe;
      blocked_by = (prior-is i).blocked_by;
      verdict = unwrap_or (find (λ v. holds-is v i) in_order) the.Serve;
      best = option_map (λ info. info.member) (best-is i);
      missing = states-are i;
    };
    intervals = alike.past_are;
  }
