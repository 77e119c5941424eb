-- Whatever entries follow, a log and the same log compacted give the same views.
use Rattle.pgp_compact.proofs.Common.{AnyCode, Bool, Contains, Contains-here, Contains-later, Entry, EpochState, GroupLog, History, Incremental, Info, IsAfter, List, Member, None, PgId, Report, Some, Span, Verdict, [], ap, ap₂, are_checked, are_whole, arith, best, best_info, by_number, can_write, cases_Bool, compacted, counts_by, ends_at, enough_of, epoch, false, filter, filter-append, filter-contains, filter_map, filter_map-append, filter_map-from, fold, fold-append, fold_max-least, front-checked, group_history, group_in, group_with, has_member, has_number, heard, histories, history-last, verdict_holds, if◌then◌else◌, incs, incs_of, info_by, info_of, infos, infos_in, infos_of, inr, is_after, is_by_place, is_clean_from, is_counted, is_of, is_recorded, is_same_group, is_same_member, is_some, last_of_each_member, last_where, last_where-some, leader, length, les, list_any, list_any-append, log-in, map, map-agree, map-append, map_some, max, nat_le, nat_tests, needed_of, not, epochs_ascend, option_and_then, option_map, option_map_or, past, past_ending, past_ends, past_intervals, peer_state_by, peer_states, prefers, present_members, prior, refl, report_of, reported, reports_in, reports_of, scratch, state_at, sym, true, view_of, wants_clean, was_clean, whole_best, with_count, within, ℕ, ◌&&◌, ◌++◌, ◌||◌, ◌∙◌, ◌∷◌, ◌≡◌, ◌≤◌}
use Rattle.pgp_compact.proofs.IntervalLemmas.{CanMatter, history-goes_on, span_ending}
use Rattle.pgp_compact.proofs.NeededLemmas.{NeedsLast, needed-any}
use Rattle.pgp_compact.proofs.NumberLemmas.{entries_in, has}
use Rattle.pgp_compact.proofs.PartLemmas.{AreAll, Before, clean-same, clean_of, greatest_start, heard-needed, incs-gone_on, infos-needed, is_told, reports-needed, start_of, starts-same, told-alike, told-same, wants_info}
use Rattle.pgp_ids.specs.declared.verdict.Verdict.TheVariants as the

-- ---- the last infos of members

has-filtered : (member : Member) (counts : Info → Bool) (told : List Info) → has_member member (filter counts told) ≡ list_any (λ info. counts info && is_of member info) told
has-filtered member counts [] = refl
has-filtered member counts (info ∷ told) = grind (arith, cases_Bool (counts info), has-filtered member counts told)

-- where the last info of each member that counts is needed, these are the same, whatever follows
same-lasts : (Holds : Info → Type 0) (test : List Info → Info → Bool) (counts : Info → Bool) → ((member : Member) → NeedsLast Holds test (λ info. counts info && is_of member info))
    → (told more : List Info) → ((info : Info) → Contains told info → Holds info)
    → last_of_each_member (filter counts (needed_of test told ++ more)) ≡ last_of_each_member (filter counts (told ++ more))
same-lasts Holds test counts needs [] more each = refl
same-lasts Holds test counts needs (info ∷ told) more each =
    let later = λ (other : Info) (there : Contains told other). each other (Contains-later info told other there) in
    let rest = same-lasts Holds test counts needs told more later in
    let passes : Info → Bool = λ other. counts other && is_of info.member other in
    let any = needed-any Holds test passes (needs info.member) told more later in
    let left = has-filtered info.member counts (needed_of test told ++ more) in
    let all = has-filtered info.member counts (told ++ more) in
    let last = needs info.member told info (each info (Contains-here info told)) later in
    grind (arith, nat_tests, cases_Bool (test told info), cases_Bool (counts info), rest, any, left, all, last, cases_Bool (list_any passes told), list_any-append passes told more)

-- ---- what was sent

-- what the entry reports was sent by this epoch, and tells of no clean epoch beyond
pub record WasSent (epoch : ℕ) (x : Entry) : Type 0 where
  pub info : (info : Info) → info_of x ≡ Some info → (info.stamp ≤ epoch) × (info.last_epoch_clean ≤ epoch)
  pub report : (report : Report) → report_of x ≡ Some report → report.stamp ≤ epoch

-- each report was sent in an epoch that the log has reached
abbrev pub IsSent : List Entry → Type 0
IsSent log = (x : Entry) → Contains log x → WasSent (epoch (incs_of log)) x

infos-sent : (log : List Entry) → IsSent log → (pg : PgId) (info : Info) → Contains (infos_in pg log) info
    → (info.stamp ≤ epoch (incs_of log)) × (info.last_epoch_clean ≤ epoch (incs_of log))
infos-sent log sent pg info there =
    let from = filter_map-from info_of log info (filter-contains (λ (i : Info). is_same_group i.pg pg) (infos_of log) info there).0 in
    (sent from.0 from.1).info info from.2

reports-sent : (log : List Entry) → IsSent log → (pg : PgId) (report : Report) → Contains (reports_in pg log) report → report.stamp ≤ epoch (incs_of log)
reports-sent log sent pg report there =
    let from = filter_map-from report_of log report (filter-contains (λ (r : Report). is_same_group r.pg pg) (reports_of log) report there).0 in
    (sent from.0 from.1).report report from.2

-- what doesn't count never counts again
abbrev pub NeverCountsAgain : Type 0
NeverCountsAgain =
    (g after : GroupLog) (later : List Entry) (member : Member) (stamp : ℕ) → IsAfter g later after
    → stamp ≤ epoch (incs g) → is_counted g member stamp ≡ false → is_counted after member stamp ≡ false

-- ---- the parts of a view

-- a flag is the same where it is, as far as clean epochs can matter to it
same-flag : (can recorded a b since : Bool) → ((can && (not (can && (recorded || false)) || since)) ≡ true → a ≡ b) → (can && (recorded || a)) ≡ (can && (recorded || b))
same-flag false recorded a b since same = refl
same-flag true true a b since same = refl
same-flag true false a b since same = same refl

was-clean : (span : Span) (told : List Info) → was_clean (map clean_of told) span.first span.last ≡ list_any (is_clean_from span 0) told
was-clean span [] = refl
was-clean span (info ∷ told) = grind (arith, nat_tests, was-clean span told)

-- past intervals by infos that say the same of each in which clean epochs can matter
past-agree : (told others : List Info) (h : History AnyCode) (les : ℕ)
    → ((last : ℕ) → ends_at h last ≡ true → wants_clean h.code les (past_ending enough_of is_by_place [] h last) ≡ true
    → list_any (is_clean_from (span_ending h last) 0) told ≡ list_any (is_clean_from (span_ending h last) 0) others)
    → past_intervals enough_of is_by_place (map clean_of told) h ≡ past_intervals enough_of is_by_place (map clean_of others) h
past-agree told others h les same =
    map-agree (past_ending enough_of is_by_place (map clean_of told) h) (past_ending enough_of is_by_place (map clean_of others) h) (past_ends h) (λ last there.
    let ends = (filter-contains (ends_at h) _ last there).1 in
    let span : Span = span_ending h last in
    let ended : EpochState = state_at h last in
    let flag = same-flag (can_write (enough_of h.code) (is_by_place h.code) ended.members) (is_recorded ended.facts span.first)
    (was_clean (map clean_of told) span.first span.last) (was_clean (map clean_of others) span.first span.last) (nat_le les span.last)
    (λ wants. was-clean span told ∙ same last ends wants ∙ sym (was-clean span others)) in
    λ i. record { first = span.first; last = span.last; members = ended.members; rw = flag i })

-- the log and the compacted one have the same incrementals, and say the same of the group of this history: the last epoch in
-- which it began to serve, its past intervals, the last info that counts of each member, and of each member the last log
-- entry of each number; so their views are alike
module _ (never : NeverCountsAgain) (log more : List Entry) (pg : PgId) (after : History AnyCode) (checked : are_checked (incs_of (log ++ more)) ≡ true)
    (then' : group_history (incs_of (log ++ more)) pg ≡ Some after) (sent : IsSent log) where
  abbrev pub whole : GroupLog
  whole = group_with (log ++ more) pg after

  abbrev pub less : GroupLog
  less = group_with (compacted log ++ more) pg after

  abbrev wants : List Info → Info → Bool
  wants = wants_info (group_in log pg)

  pub infos-whole : infos_in pg (log ++ more) ≡ infos_in pg log ++ infos_in pg more
  infos-whole = grind (arith, filter_map-append, filter-append)

  pub infos-are : (g : GroupLog) → group_in log pg ≡ Some g → infos g ≡ infos_in pg log
  infos-are g there = let m = map_some (group_with log pg) (group_history (incs_of log) pg) g there in ap infos (sym m.2)

  starts-before : (g : GroupLog) → group_in log pg ≡ Some g → les g ≤ les whole
  starts-before g there =
      let first : List ℕ = map start_of (infos_in pg log) in
      let was : les g ≡ fold max 0 first = ap greatest_start (infos-are g there) in
      let all : les whole ≡ fold max (fold max 0 first) (map start_of (infos_in pg more)) =
      ap greatest_start infos-whole ∙ ap (fold max 0) (map-append start_of (infos_in pg log) (infos_in pg more)) ∙ fold-append max 0 first (map start_of (infos_in pg more)) in
      omega (arith, was, all, fold_max-least (fold max 0 first) (map start_of (infos_in pg more)))

  pub before : Before (incs whole) after (les whole) (epoch (incs_of log)) (group_in log pg)
  before g there =
      let is = is_after log more pg g whole checked there (grind (arith, then')) in
      let hs = histories g more whole is in
      let are_numbered = epochs_ascend (incs g) (front-checked (incs g) (incs_of more) hs.checked) in
      let same : epoch (incs g) ≡ epoch (incs_of log) = ap (λ (l : List Entry). epoch (incs_of l)) (log-in log pg g there) in
      record {
        counted = λ member stamp within counts. grind (arith, nat_tests, never g whole more member stamp is);
        starts = starts-before g there;
        on = history-goes_on g.pg (incs g) (incs_of more) g.history after hs.checked hs.before hs.then_is;
        known = omega (arith, same, history-last (incs g) g.pg g.history are_numbered hs.before);
      }

  pub incs-alike : incs less ≡ incs whole
  incs-alike = incs-gone_on log more

  pub les-alike : les whole ≡ les less
  les-alike =
      let told = starts-same (group_in log pg) (infos_in pg log) (infos_in pg more) (λ g there. grind (arith, log-in log pg g there)) in
      grind (arith, infos-whole, infos-needed log log more pg, told)

  pub all-told : AreAll (incs whole) after (les whole) (epoch (incs_of log)) (group_in log pg) (infos_in pg log)
  all-told = record { are = infos-are; known = λ info there. (infos-sent log sent pg info there).1 }

  pub clean-alike : (last n : ℕ) → CanMatter after (les whole) last
      → list_any (is_clean_from (span_ending after last) n) (infos whole) ≡ list_any (is_clean_from (span_ending after last) n) (infos less)
  clean-alike last n matters =
      let clean : Info → Bool = is_clean_from (span_ending after last) n in
      let same = clean-same (incs whole) after (les whole) (epoch (incs_of log)) last matters n (group_in log pg) before (infos_in pg log) (infos_in pg more) all-told in
      ap (list_any clean) infos-whole ∙ sym same ∙ sym (ap (list_any clean) (infos-needed log log more pg))

  pub past-alike : past whole ≡ past less
  past-alike = past-agree (infos whole) (infos less) after (les whole) (λ last ends wants. clean-alike last 0 (inr (ends, wants)))

  pub heard-same : heard whole ≡ heard less
  heard-same =
      let counts : List Incremental → Info → Bool = λ incs info. counts_by incs after info.member info.stamp in
      let lasts : List Incremental → List Info → List Info = λ incs told. last_of_each_member (filter (counts incs) told) in
      let needs = λ (member : Member). heard-needed (incs whole) after (les whole) (epoch (incs_of log)) member (group_in log pg) before in
      let early = λ (info : Info) (there : Contains (infos_in pg log) info). (infos-sent log sent pg info there).0 in
      let last = same-lasts (λ (info : Info). info.stamp ≤ epoch (incs_of log)) wants (counts (incs whole)) needs (infos_in pg log) (infos_in pg more) early in
      ap (lasts (incs whole)) infos-whole ∙ sym last ∙ sym (ap₂ lasts incs-alike (infos-needed log log more pg))

  heard-alike : (member : Member) → info_by (heard whole) member ≡ info_by (heard less) member
  heard-alike member = ap (λ (told : List Info). info_by told member) heard-same

  entries-alike : (member : Member) → by_number (reported whole member) ≡ by_number (reported less member)
  entries-alike member =
      let all : reports_in pg (log ++ more) ≡ reports_in pg log ++ reports_in pg more = grind (arith, filter_map-append, filter-append) in
      let same = told-same (incs whole) after (les whole) (epoch (incs_of log)) member (group_in log pg) before in
      let last = same (reports_in pg log) (reports_in pg more) (reports-sent log sent pg) in
      let entries = λ (incs : List Incremental) (l : List Report). by_number (entries_in (is_told incs after member) l) in
      ap (entries (incs whole)) all ∙ sym last ∙ sym (ap₂ entries incs-alike (reports-needed log log more pg))

  -- they have reported log entries of the same numbers
  pub numbers-alike : (member : Member) (v : ℕ) → has_number v (reported whole member) ≡ has_number v (reported less member)
  numbers-alike member v =
      let all : reports_in pg (log ++ more) ≡ reports_in pg log ++ reports_in pg more = grind (arith, filter_map-append, filter-append) in
      let same = told-alike (incs whole) after (les whole) (epoch (incs_of log)) member (group_in log pg) before (reports_in pg log) (reports_in pg more) (reports-sent log sent pg) v in
      let entries = λ (incs : List Incremental) (l : List Report). last_where (has v) (entries_in (is_told incs after member) l) in
      let last : last_where (has v) (reported whole member) ≡ last_where (has v) (reported less member) =
      ap (entries (incs whole)) all ∙ sym same ∙ sym (ap₂ entries incs-alike (reports-needed log log more pg)) in
      sym (last_where-some (has v) (reported whole member)) ∙ ap is_some last ∙ last_where-some (has v) (reported less member)

  pub prior-alike : prior whole ≡ prior less
  prior-alike = grind (arith, incs-alike, les-alike, past-alike)

  pub best-alike : best whole ≡ best less
  best-alike = ap (best_info (prefers after.code (leader whole))) heard-same

  whole_best-alike : whole_best whole ≡ whole_best less
  whole_best-alike = λ i. option_and_then
      (λ info. if are_whole info (within info (entries-alike info.member i)) then Some info else None) (best-alike i)

  states-alike : peer_states whole ≡ peer_states less
  states-alike = λ i. option_map_or (λ best. map
      (λ peer. record { member = peer.member; state = peer_state_by best (within best (entries-alike best.member i)) peer })
      (filter_map (λ member. heard-alike member i) (filter (λ member. not (is_same_member member best.member)) (present_members whole))))
      (whole_best-alike i) []

  has_member-alike : (member : Member) → has_member member (heard whole) ≡ has_member member (heard less)
  has_member-alike member = ap (has_member member) heard-same

  holds-alike : (v : Verdict) → verdict_holds whole v ≡ verdict_holds less v
  holds-alike the.Waiting = λ i. list_any (λ member. not (has_member-alike member i)) (prior-alike i).probe
  holds-alike v = grind (arith, incs-alike, prior-alike, best-alike, whole_best-alike)

  view-alike : with_count (length less.log) (view_of whole) ≡ view_of less
  view-alike =
      let same : verdict_holds whole ≡ verdict_holds less = λ i v. holds-alike v i in
      cc (incs-alike, les-alike, past-alike, prior-alike, best-alike, states-alike)

pub same-answer : NeverCountsAgain → (log more : List Entry) (pg : PgId) → are_checked (incs_of (log ++ more)) ≡ true → IsSent log
    → scratch (compacted log ++ more) pg ≡ option_map (with_count (length (compacted log ++ more))) (scratch (log ++ more) pg)
same-answer never log more pg checked sent = grind (arith, incs-gone_on, view-alike)
