-- Which reports count as more of the log comes, and what never falls then.
use Rattle.pgp_group.proofs.Common.{◌≡◌, ◌≢◌, ℕ, ◌<◌, ◌≤◌, List, [], ◌∷◌, ◌++◌, Some, Bool, true, false, not, ◌&&◌, ◌||◌, nat_le, map, fold, max, refl, append-nil, ap, sym, ◌∙◌, inl, inr, ◌⊎◌, arith, All, filter, cases_Bool, true≢false, and_right, nat_tests, map-append, filter-append, filter_map-append, All-weaker, fold-append, and-true, AnyCode, Entry, Incremental, Member, PgId, Info, Report, is_same_member, History, current_first, map_some, are_checked, boots, takes_down, destroys, is_up, up_from, epoch, then_with, is_same_group, inc_of, report_of, incs_of, infos_of, reports_of, group_history, GroupLog, group_in, group_with, incs, infos, reports, is_counted, heard, last_of_each_member, reported, IsAfter, AreSentBy, les, last-checked}
use Rattle.pgp_group.specs.Entries.{info_of}
use Rattle.pgp_group.proofs.FirstLemmas.{first-opens, first-step, along}
use Rattle.pgp_group.proofs.GrowthLemmas.{epoch-snoc, later_epoch}
use Rattle.pgp_group.proofs.Lists.{last_where-passes, last_where-none, left_new, filter-fail}
use Rattle.pgp_ids.specs.declared.entry.Entry.TheVariants as entry

-- ---- the histories of a group and of the same group later

pub record Histories (g : GroupLog) (later : List Entry) (after : GroupLog) : Type 0 where
  pub checked : are_checked (incs g ++ incs_of later) ≡ true
  pub before : group_history (incs g) g.pg ≡ Some g.history
  pub then_is : group_history (incs g ++ incs_of later) g.pg ≡ Some after.history
  pub log : after.log ≡ g.log ++ later
  pub pg : after.pg ≡ g.pg
  pub incs_are : incs after ≡ incs g ++ incs_of later

history-in : (log : List Entry) (pg : PgId) (g : GroupLog) → group_in log pg ≡ Some g → (group_history (incs_of log) pg ≡ Some g.history) × ((g.log ≡ log) × (g.pg ≡ pg))
history-in log pg g is = grind (arith, map_some (group_with log pg) (group_history (incs_of log) pg) g is)

pub histories : (g : GroupLog) (later : List Entry) (after : GroupLog) → IsAfter g later after → Histories g later after
histories g later after is =
    grind (arith, filter_map-append inc_of g.log later, history-in (g.log ++ later) g.pg after is.then_is, history-in g.log g.pg g is.before)

-- the log and the group of what a log has
pub log-in : (log : List Entry) (pg : PgId) (g : GroupLog) → group_in log pg ≡ Some g → g.log ≡ log
log-in log pg g is = (history-in log pg g is).1.0

pub is_after : (log later : List Entry) (pg : PgId) (g after : GroupLog) → are_checked (incs_of (log ++ later)) ≡ true → group_in log pg ≡ Some g → group_in (log ++ later) pg ≡ Some after → IsAfter g later after
is_after log later pg g after checked is then' =
    let same = (history-in log pg g is).1 in
    record {
      checked = ap (λ (l : List Entry). are_checked (incs_of (l ++ later))) same.0 ∙ checked;
      before = (λ i. group_in (same.0 i) (same.1 i)) ∙ is;
      then_is = (λ i. group_in (same.0 i ++ later) (same.1 i)) ∙ then';
    }

-- ---- a new interval

below-first : (g : GroupLog) (member : Member) (stamp : ℕ) → stamp < current_first g.history → is_counted g member stamp ≡ false
below-first g member stamp below = let early : nat_le (current_first g.history) stamp ≡ false = grind (arith, nat_tests) in rw early refl

pub early-counts : (g after : GroupLog) (inc : Incremental) (member : Member) (stamp : ℕ) → IsAfter g (entry.Inc inc ∷ []) after
    → after.history.current ≢ g.history.current → stamp < inc.epoch → is_counted after member stamp ≡ false
early-counts g after inc member stamp is differ sent =
    let hs = histories g (entry.Inc inc ∷ []) after is in
    let opens : current_first after.history ≡ inc.epoch = first-opens (incs g) inc g.pg g.history after.history hs.checked hs.before hs.then_is differ in
    below-first after member stamp (omega (arith, opens, sent))

pub new-counts : (g after : GroupLog) (inc : Incremental) (member : Member) (stamp : ℕ) → IsAfter g (entry.Inc inc ∷ []) after
    → after.history.current ≢ g.history.current → stamp ≤ epoch (incs g) → is_counted after member stamp ≡ false
new-counts g after inc member stamp is differ sent =
    let hs = histories g (entry.Inc inc ∷ []) after is in
    early-counts g after inc member stamp is differ (omega (arith, sent, later_epoch (incs g) inc (last-checked (incs g) inc hs.checked)))

-- an incremental brings no reports
pub same-infos : (g after : GroupLog) (inc : Incremental) → IsAfter g (entry.Inc inc ∷ []) after → infos after ≡ infos g
same-infos g after inc is =
    grind (arith, histories g (entry.Inc inc ∷ []) after is, filter_map-append info_of g.log (entry.Inc inc ∷ []), append-nil (infos_of g.log))

pub same-reports : (g after : GroupLog) (inc : Incremental) → IsAfter g (entry.Inc inc ∷ []) after → reports after ≡ reports g
same-reports g after inc is =
    grind (arith, filter_map-append report_of g.log (entry.Inc inc ∷ []), append-nil (reports_of g.log))

pub new-heard : (g after : GroupLog) (inc : Incremental) → IsAfter g (entry.Inc inc ∷ []) after
    → after.history.current ≢ g.history.current → AreSentBy (epoch (incs g)) g → heard after ≡ []
new-heard g after inc is differ sent =
    let each : All (λ (info : Info). is_counted after info.member info.stamp ≡ false) (infos g) =
    All-weaker (λ (info : Info). info.stamp ≤ epoch (incs g)) (λ (info : Info). is_counted after info.member info.stamp ≡ false)
    (λ info by. new-counts g after inc info.member info.stamp is differ by) (infos g) sent.each_info in
    ap (λ (told : List Info). last_of_each_member (filter (λ info. is_counted after info.member info.stamp) told)) (same-infos g after inc is)
    ∙ ap last_of_each_member (filter-fail (λ (info : Info). is_counted after info.member info.stamp) (infos g) each)

pub new-reported : (g after : GroupLog) (inc : Incremental) (member : Member) → IsAfter g (entry.Inc inc ∷ []) after
    → after.history.current ≢ g.history.current → AreSentBy (epoch (incs g)) g → reported after member ≡ []
new-reported g after inc member is differ sent =
    let test : Report → Bool = λ report. is_same_member report.member member && is_counted after report.member report.stamp in
    let each : All (λ (report : Report). test report ≡ false) (reports g) =
    All-weaker (λ (report : Report). report.stamp ≤ epoch (incs g)) (λ (report : Report). test report ≡ false)
    (λ report by. and_right (is_same_member report.member member) (is_counted after report.member report.stamp) (new-counts g after inc report.member report.stamp is differ by)) (reports g) sent.each_report in
    grind (arith, same-reports g after inc is, filter-fail test (reports g) each)

-- ---- what counts after an incremental counted before

-- the greatest epoch with one more incremental
pub up_from-snoc : (incs : List Incremental) (inc : Incremental) (osd : ℕ) → up_from (then_with incs inc) osd ≡ fold max (up_from incs osd) (map (λ i. i.epoch) (filter (boots osd) (inc ∷ [])))
up_from-snoc incs inc osd = search (filter-append, map-append, fold-append)

up_from-rises : (incs : List Incremental) (inc : Incremental) (osd : ℕ) → up_from incs osd ≤ up_from (then_with incs inc) osd
up_from-rises incs inc osd = grind (arith, up_from-snoc incs inc osd)

up_from-boots : (incs : List Incremental) (inc : Incremental) (osd : ℕ) → boots osd inc ≡ true → inc.epoch ≤ up_from (then_with incs inc) osd
up_from-boots incs inc osd booting = grind (arith, up_from-snoc incs inc osd)

-- a device that doesn't boot is up only if it was
abbrev tells_of : ℕ → Incremental → Bool
tells_of osd inc = boots osd inc || takes_down osd inc || destroys osd inc

is_up-before : (incs : List Incremental) (inc : Incremental) (osd : ℕ) → boots osd inc ≡ false → is_up (then_with incs inc) osd ≡ true → is_up incs osd ≡ true
is_up-before incs inc osd still up =
    grind (arith, last_where-passes (tells_of osd) incs inc, last_where-none (tells_of osd) incs (inc ∷ []))

-- a report of this member and stamp counts by this history and map
abbrev pub counts_by : List Incremental → History AnyCode → Member → ℕ → Bool
counts_by incs h member stamp = nat_le (current_first h) stamp && is_up incs member.osd && nat_le (up_from incs member.osd) stamp

counted-before : (incs : List Incremental) (inc : Incremental) (h after : History AnyCode) (member : Member) (stamp : ℕ) → current_first h ≤ current_first after → stamp < inc.epoch
    → counts_by (then_with incs inc) after member stamp ≡ true → counts_by incs h member stamp ≡ true
counted-before incs inc h after member stamp rises early counts =
    grind (arith, nat_tests, up_from-rises incs inc member.osd, up_from-boots incs inc member.osd, is_up-before incs inc member.osd)

-- ---- what counted before and still counts

-- a device of which the incremental tells counts no more by what it sent before
told_off : (incs : List Incremental) (inc : Incremental) (osd stamp : ℕ) (first : Bool) → stamp < inc.epoch → tells_of osd inc ≡ true
    → (first && is_up (then_with incs inc) osd && nat_le (up_from (then_with incs inc) osd) stamp) ≡ false
told_off incs inc osd stamp first early told =
    grind (arith, nat_tests, up_from-boots incs inc osd, last_where-passes (tells_of osd) incs inc told)

-- a device of which it tells nothing stays up or down
still_up : (incs : List Incremental) (inc : Incremental) (osd : ℕ) → tells_of osd inc ≡ false → (is_up (then_with incs inc) osd ≡ is_up incs osd) × (up_from (then_with incs inc) osd ≡ up_from incs osd)
still_up incs inc osd silent = grind (arith, last_where-none (tells_of osd) incs (inc ∷ []), left_new (boots osd) incs inc)

-- what the device sent before still counts if it did: the current interval goes on, whose first epoch is this, and the
-- incremental tells nothing of the device
abbrev pub outlasts : List Incremental → Incremental → ℕ → ℕ → Bool
outlasts incs inc first osd = nat_le first (epoch incs) && not (tells_of osd inc)

-- the first epoch of the current interval stays, or is a later epoch than the last
abbrev pub Moves : List Incremental → History AnyCode → History AnyCode → Type 0
Moves incs h after = ((current_first after ≡ current_first h) × (current_first h ≤ epoch incs)) ⊎ (epoch incs < current_first after)

pub counts-after : (incs : List Incremental) (inc : Incremental) (h after : History AnyCode) (member : Member) (stamp : ℕ) → epoch incs < inc.epoch → stamp ≤ epoch incs → Moves incs h after
    → counts_by (then_with incs inc) after member stamp ≡ (counts_by incs h member stamp && outlasts incs inc (current_first after) member.osd)
counts-after incs inc h after member stamp next sent moved =
    grind (arith, nat_tests, told_off incs inc member.osd stamp (nat_le (current_first after) stamp), still_up incs inc member.osd)

-- of all that was sent until the first group's last epoch, what counts in the second group is what counted in the first and is
-- of a device that lasts
pub record Outlasts (g after : GroupLog) : Type 0 where
  pub lasts : ℕ → Bool
  pub rises : epoch (incs g) ≤ epoch (incs after)
  pub counts : (member : Member) (stamp : ℕ) → stamp ≤ epoch (incs g)
      → is_counted after member stamp ≡ (is_counted g member stamp && lasts member.osd)

-- so it is by the same map and history, and by the next map
pub outlasts-same : (g after : GroupLog) → incs after ≡ incs g → after.history ≡ g.history → Outlasts g after
outlasts-same g after incs_is history_is = record {
  lasts = λ _. true;
  rises = omega (arith, ap epoch incs_is);
  counts = λ member stamp sent. (λ i. counts_by (incs_is i) (history_is i) member stamp) ∙ sym (and-true (is_counted g member stamp));
}

pub outlasts-inc : (g after : GroupLog) (inc : Incremental) → incs after ≡ then_with (incs g) inc → epoch (incs g) < inc.epoch
    → Moves (incs g) g.history after.history → Outlasts g after
outlasts-inc g after inc incs_is next moved = record {
  lasts = outlasts (incs g) inc (current_first after.history);
  rises = omega (arith, ap epoch incs_is, epoch-snoc (incs g) inc, next);
  counts = λ member stamp sent. grind (arith, counts-after (incs g) inc g.history after.history member stamp next sent moved);
}

-- a report of this stamp was sent, and doesn't count
abbrev Silent : Member → ℕ → List Incremental → History AnyCode → Type 0
Silent member stamp incs h = (stamp ≤ epoch incs) × (counts_by incs h member stamp ≡ false)

silent-step : (pg : PgId) (member : Member) (stamp : ℕ) (incs : List Incremental) (inc : Incremental) (h after : History AnyCode) → are_checked (then_with incs inc) ≡ true
    → group_history incs pg ≡ Some h → group_history (then_with incs inc) pg ≡ Some after → Silent member stamp incs h → Silent member stamp (then_with incs inc) after
silent-step pg member stamp incs inc h after checked is then' silent =
    let next : epoch incs < inc.epoch = later_epoch incs inc (last-checked incs inc checked) in
    let sent : stamp ≤ epoch incs = silent.0 in
    let later : stamp ≤ epoch (then_with incs inc) = omega (arith, epoch-snoc incs inc, next, sent) in
    let rises : current_first h ≤ current_first after = first-step incs inc pg h after checked is then' in (
      grind arith,
      elim (cases_Bool (counts_by (then_with incs inc) after member stamp)) [
        | inl counts ↦ absurd (true≢false (sym (counted-before incs inc h after member stamp rises (omega (arith, next, sent)) counts) ∙ silent.1))
        | inr silent' ↦ silent'
      ],
    )

pub never-counts : (g after : GroupLog) (later : List Entry) (member : Member) (stamp : ℕ) → IsAfter g later after
    → stamp ≤ epoch (incs g) → is_counted g member stamp ≡ false → is_counted after member stamp ≡ false
never-counts g after later member stamp is sent silent =
    let hs = histories g later after is in
    let last : Silent member stamp (incs g ++ incs_of later) after.history =
    along g.pg (Silent member stamp) (silent-step g.pg member stamp)
    (incs_of later) (incs g) g.history after.history hs.checked hs.before hs.then_is (sent, silent) in
    ap (λ l. counts_by l after.history member stamp) hs.incs_are ∙ last.1

pub fold_max-least : (a : ℕ) (xs : List ℕ) → a ≤ fold max a xs
fold_max-least a [] = omega arith
fold_max-least a (x ∷ xs) = grind (arith, fold_max-least (max a x) xs)

-- the history_les of the infos of the group
abbrev pub told_les : PgId → List Entry → List ℕ
told_les pg log = map (λ (info : Info). info.history_les) (filter (λ (info : Info). is_same_group info.pg pg) (infos_of log))

told_les-append : (pg : PgId) (log later : List Entry) → told_les pg (log ++ later) ≡ told_les pg log ++ told_les pg later
told_les-append pg log later = search (filter_map-append, filter-append, map-append)

-- the epoch in which a group last began to serve, whatever its history
pub les-later : (log later : List Entry) (pg : PgId) → fold max 0 (told_les pg log) ≤ fold max 0 (told_les pg (log ++ later))
les-later log later pg = search (told_les-append, fold-append, fold_max-least)

les-told : (log : List Entry) (pg : PgId) (g : GroupLog) → group_in log pg ≡ Some g → les g ≡ fold max 0 (told_les pg log)
les-told log pg g is = ap les (sym (map_some (group_with log pg) (group_history (incs_of log) pg) g is).2)

pub les-rises : (log later : List Entry) (pg : PgId) (g after : GroupLog) → group_in log pg ≡ Some g → group_in (log ++ later) pg ≡ Some after → les g ≤ les after
les-rises log later pg g after is grows = grind (arith, les-told log pg g is, les-told (log ++ later) pg after grows, les-later log later pg)

-- what the laws say
pub ruleset later_laws = (les-rises)

pub ruleset new_laws = (early-counts, new-heard, new-reported)

pub ruleset never_laws = (never-counts)
