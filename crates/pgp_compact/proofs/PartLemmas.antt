-- What is left of a compacted log: its incrementals, and of the reports of a group those that say of it what all of them say,
use Rattle.pgp_compact.proofs.Common.{AnyCode, Bool, Contains, Contains-here, Contains-later, Entry, GroupLog, History, Incremental, Info, List, LogEntry, Member, None, Option, PgId, Report, Some, Span, [], and_parts, any-contains, ap, append-nil, arith, by_number, cases_Bool, cases_lt, compacted, contains-any, counts_by, false, fold, fold-append, group_in, has_number, inc_of, incs, incs_of, info_of, infos, infos_in, inl, inr, is_clean_from, is_counted, is_needed, is_of, is_same_group, is_same_member, is_in_span, last_place, last_where, les, list_any, list_any-append, map, map-append, max, nat_eq, nat_le, nat_tests, needed_of, needs_info, needs_report, none-narrower, not, option_and_then, option_map_or, or-false, or-true, refl, replaces, replaces_number, report_of, reports_in, same_Some, same_group, same_member, starts_as_late, suc, sym, tells_last_clean, tells_last_of, true, true≢false, zero, ℕ, ◌&&◌, ◌++◌, ◌+◌, ◌<◌, ◌||◌, ◌∙◌, ◌∷◌, ◌≡◌, ◌≤◌}
use Rattle.pgp_compact.proofs.IntervalLemmas.{CanMatter, GoesOn, span_ending, was-among}
use Rattle.pgp_compact.proofs.NeededLemmas.{NeedsLast, needed-any, needed-last, needed-none, needed-part, needed-whole}
use Rattle.pgp_compact.proofs.NumberLemmas.{AlikeByNumber, by_number-same, entries_in, has, last-number}
use Rattle.pgp_ids.specs.declared.entry.Entry.TheVariants as entry

-- its incrementals stay whole
pub incs-gone_on : (log more : List Entry) → incs_of (compacted log ++ more) ≡ incs_of (log ++ more)
incs-gone_on log more = needed-whole inc_of (is_needed log) (λ later x is. grind arith) log more

pub incs-same : (log : List Entry) → incs_of (compacted log) ≡ incs_of log
incs-same log = simp append-nil at (incs-gone_on log [])

abbrev pub wants_info : Option GroupLog → List Info → Info → Bool
wants_info found later info = option_map_or (λ g. needs_info g later info) found true

info-decides : (log : List Entry) (pg : PgId) (later : List Entry) (x : Entry) (info : Info) → info_of x ≡ Some info → is_same_group info.pg pg ≡ true
    → is_needed log later x ≡ wants_info (group_in log pg) (infos_in pg later) info
info-decides log pg later (entry.Info sent) info is here = rw (← same_group info.pg pg here, ← same_Some sent info is) refl
info-decides log pg later x info is here = cc

pub infos-needed : (log rest more : List Entry) (pg : PgId)
    → infos_in pg (needed_of (is_needed log) rest ++ more) ≡ needed_of (wants_info (group_in log pg)) (infos_in pg rest) ++ infos_in pg more
infos-needed log rest more pg =
    needed-part info_of (λ info. is_same_group info.pg pg) (is_needed log) (wants_info (group_in log pg)) (info-decides log pg) rest more

abbrev pub wants_report : Option GroupLog → List Report → Report → Bool
wants_report found later report = option_map_or (λ g. needs_report g later report) found true

report-decides : (log : List Entry) (pg : PgId) (later : List Entry) (x : Entry) (report : Report) → report_of x ≡ Some report → is_same_group report.pg pg ≡ true
    → is_needed log later x ≡ wants_report (group_in log pg) (reports_in pg later) report
report-decides log pg later (entry.Entries sent) report is here = rw (← same_group report.pg pg here, ← same_Some sent report is) refl
report-decides log pg later x report is here = cc

pub reports-needed : (log rest more : List Entry) (pg : PgId)
    → reports_in pg (needed_of (is_needed log) rest ++ more) ≡ needed_of (wants_report (group_in log pg)) (reports_in pg rest) ++ reports_in pg more
reports-needed log rest more pg =
    needed-part report_of (λ report. is_same_group report.pg pg) (is_needed log) (wants_report (group_in log pg)) (report-decides log pg) rest more

-- ---- a group that goes on

-- how the group of the log that was compacted stands to its history later, when it last began to serve in the epoch `later`: what
-- was sent by the epoch of that log and counts later counted then, and its intervals stay
pub record ComesBefore (g : GroupLog) (incs : List Incremental) (after : History AnyCode) (later epoch : ℕ) : Type 0 where
  pub counted : (member : Member) (stamp : ℕ) → stamp ≤ epoch → counts_by incs after member stamp ≡ true → is_counted g member stamp ≡ true
  pub starts : les g ≤ later
  pub on : GoesOn g.history after
  pub known : epoch ≤ g.history.first + last_place g.history

pub none-among : {X : Type 0} (narrow wide : X → Bool) (xs : List X) → ((x : X) → Contains xs x → narrow x ≡ true → wide x ≡ true) → list_any wide xs ≡ false → list_any narrow xs ≡ false
none-among narrow wide [] each none = refl
none-among narrow wide (x ∷ xs) each none =
    grind (arith, each x (Contains-here x xs), none-among narrow wide xs (λ y there. each y (Contains-later x xs y there)))

-- ---- when the group last began to serve

abbrev pub start_of : Info → ℕ
start_of info = info.history_les

abbrev pub greatest_start : List Info → ℕ
greatest_start told = fold max 0 (map start_of told)

-- an info reaches a number exactly where the greatest start does
start-reaches : (n start : ℕ) (told : List Info) → nat_le n (fold max start (map start_of told)) ≡ (nat_le n start || list_any (λ info. nat_le n info.history_les) told)
start-reaches n start [] = sym (or-false (nat_le n start))
start-reaches n start (info ∷ told) = grind (arith, nat_tests, start-reaches n (max start info.history_les) told)

-- the greatest start of those that are needed is that of all, whatever follows
starts-needed : (least : ℕ) (found : Option GroupLog) → 0 < least → ((g : GroupLog) → found ≡ Some g → les g ≡ least)
    → NeedsLast (λ (info : Info). Unit {0}) (wants_info found) (λ info. nat_le least info.history_les)
starts-needed least found above is later info any all starts none =
    let reaches : Info → Bool = λ info. nat_le least info.history_les in
    grind (arith, nat_tests, is, none-narrower (starts_as_late info) reaches (λ other again. grind (arith, nat_tests)) later none)

pub starts-same : (found : Option GroupLog) (told more : List Info) → ((g : GroupLog) → found ≡ Some g → les g ≡ greatest_start told)
    → greatest_start (needed_of (wants_info found) told ++ more) ≡ greatest_start (told ++ more)
starts-same found told more is =
    let n : ℕ = greatest_start told in
    let kept : List Info = needed_of (wants_info found) told in
    let reached : 0 < n → list_any (λ info. nat_le n info.history_les) kept ≡ list_any (λ info. nat_le n info.history_les) told =
    λ above. simp append-nil at (needed-any (λ (info : Info). Unit {0}) (wants_info found) (λ info. nat_le n info.history_les) (starts-needed n found above is) told [] (λ info there. tt)) in
    let no_more = needed-none (wants_info found) (λ info. nat_le (suc n) info.history_les) told in
    let same : greatest_start kept ≡ n = grind (arith, nat_tests, cases_lt 0 n, reached, no_more, start-reaches n 0, start-reaches (suc n) 0) in
    grind (arith, same, map-append, fold-append)

-- ---- what counts later

abbrev pub is_heard : List Incremental → History AnyCode → Member → Info → Bool
is_heard incs after member info = counts_by incs after info.member info.stamp && is_of member info

abbrev pub clean_of : Info → ℕ
clean_of info = info.last_epoch_clean

abbrev pub is_told : List Incremental → History AnyCode → Member → Report → Bool
is_told incs after member report = is_same_member report.member member && counts_by incs after report.member report.stamp

abbrev tells_of : List Incremental → History AnyCode → Member → ℕ → Report → Bool
tells_of incs after member v report = is_told incs after member report && has_number v report.log

-- it tells of as late a clean epoch of the same interval
pub as-clean : (a b : Span) (n m : ℕ) (info : Info) → is_in_span info.last_epoch_clean a ≡ is_in_span info.last_epoch_clean b → m ≤ n → is_clean_from a n info ≡ true → is_clean_from b m info ≡ true
as-clean a b n m info same below clean = grind (arith, nat_tests)

none-each : {X : Type 0} (test : X → Bool) (xs : List X) → ((x : X) → Contains xs x → test x ≡ false) → list_any test xs ≡ false
none-each test [] each = refl
none-each test (x ∷ xs) each = grind (arith, each x (Contains-here x xs), none-each test xs (λ y there. each y (Contains-later x xs y there)))

pub any-wider : {X : Type 0} (narrow wide : X → Bool) (xs : List X) → ((x : X) → narrow x ≡ true → wide x ≡ true) → list_any narrow xs ≡ true → list_any wide xs ≡ true
any-wider narrow wide xs each some = grind (arith, cases_Bool (list_any wide xs), none-narrower narrow wide each xs)

-- a test that passes at a number, and at some later one doesn't, passes at a last one
last-passing : (test : ℕ → Bool) (n more : ℕ) → test n ≡ true → test (n + more) ≡ false → (m : ℕ) × (n ≤ m) × (test m ≡ true) × (test (m + 1) ≡ false)
last-passing test n zero some none = let same : n + 0 ≡ n = omega arith in absurd (true≢false (sym some ∙ sym (ap test same) ∙ none))
last-passing test n (suc more) some none = elim (cases_Bool (test (n + 1))) [
  | inl again ↦
      let same : (n + 1) + more ≡ n + suc more = omega arith in
      let rest = last-passing test (n + 1) more again (ap test same ∙ none) in
      (rest.0, omega (arith, rest.1), rest.2, rest.3)
  | inr stops ↦ (n, omega arith, some, stops)
]

module _ (incs : List Incremental) (after : History AnyCode) (later epoch : ℕ) where
  abbrev pub Before : Option GroupLog → Type 0
  Before found = (g : GroupLog) → found ≡ Some g → ComesBefore g incs after later epoch

  -- the last info of each member that counts is needed
  pub heard-needed : (member : Member) (found : Option GroupLog) → Before found → NeedsLast (λ (info : Info). info.stamp ≤ epoch) (wants_info found) (is_heard incs after member)
  heard-needed member found before later info early all counts none =
      let alone = none-narrower (replaces info) (is_heard incs after member) (λ other again. grind (arith, nat_tests, same_member)) later none in
      grind (arith, nat_tests, alone, before)

  -- these infos are all that the log has of the group, and none tells of a clean epoch that is to come
  pub record AreAll (found : Option GroupLog) (told : List Info) : Type 0 where
    pub are : (g : GroupLog) → found ≡ Some g → infos g ≡ told
    pub known : (info : Info) → Contains told info → info.last_epoch_clean ≤ epoch

  module _ (last : ℕ) (matters : CanMatter after later last) where
    -- so is the one with the last clean epoch of an interval in which clean epochs can matter later
    pub clean-needed : (most : ℕ) (found : Option GroupLog) → Before found → (told : List Info) → AreAll found told → list_any (is_clean_from (span_ending after last) (most + 1)) told ≡ false
        → NeedsLast (λ (info : Info). info.last_epoch_clean ≤ epoch) (wants_info found) (is_clean_from (span_ending after last) most)
    clean-needed most None before told all none_more rest info known each clean none = refl
    clean-needed most (Some g) before told all none_more rest info known each clean none =
        let b = before g refl in
        let c = and_parts (is_in_span info.last_epoch_clean (span_ending after last)) (nat_le most info.last_epoch_clean) clean in
        let low : most ≤ info.last_epoch_clean = grind (arith, nat_tests, c.1) in
        let w = was-among g after b.on later b.starts last info.last_epoch_clean matters (omega (arith, known, b.known)) c.0 in
        let here : is_in_span info.last_epoch_clean w.span ≡ true = w.same info.last_epoch_clean (omega (arith, known, b.known)) ∙ c.0 in
        let no_later : list_any (is_clean_from w.span (info.last_epoch_clean + 1)) (infos g) ≡ false =
        ap (list_any (is_clean_from w.span (info.last_epoch_clean + 1))) (all.are g refl)
        ∙ none-among (is_clean_from w.span (info.last_epoch_clean + 1)) (is_clean_from (span_ending after last) (most + 1)) told
        (λ other there. as-clean w.span (span_ending after last) (info.last_epoch_clean + 1) (most + 1) other (w.same other.last_epoch_clean (omega (arith, all.known other there, b.known))) (omega (arith, low))) none_more in
        let no_same : list_any (is_clean_from w.span info.last_epoch_clean) rest ≡ false =
        none-among (is_clean_from w.span info.last_epoch_clean) (is_clean_from (span_ending after last) most) rest
        (λ other there. as-clean w.span (span_ending after last) info.last_epoch_clean most other (w.same other.last_epoch_clean (omega (arith, each other there, b.known))) low) none in
        let tells : tells_last_of g rest info w.span ≡ true = rw (here, no_later, no_same) refl in
        let kept : tells_last_clean g rest info ≡ true = w.there (tells_last_of g rest info) tells in
        rw (kept, or-true) refl

    -- by the infos that are needed the group was clean in that interval as late as by all of them, whatever follows
    pub clean-same : (n : ℕ) (found : Option GroupLog) → Before found → (told more : List Info) → AreAll found told
        → list_any (is_clean_from (span_ending after last) n) (needed_of (wants_info found) told ++ more) ≡ list_any (is_clean_from (span_ending after last) n) (told ++ more)
    clean-same n found before told more all =
        let clean : ℕ → Info → Bool = is_clean_from (span_ending after last) in
        let left : List Info = needed_of (wants_info found) told in
        elim (cases_Bool (list_any (clean n) told)) [
          | inl some ↦
              let end : list_any (clean (n + (epoch + 1))) told ≡ false = none-each (clean (n + (epoch + 1))) told
              (λ info there. let low = all.known info there in grind (arith, nat_tests, cases_Bool (nat_le (n + (epoch + 1)) info.last_epoch_clean))) in
              let top = last-passing (λ k. list_any (clean k) told) n (epoch + 1) some end in
              let kept = needed-any (λ (info : Info). info.last_epoch_clean ≤ epoch) (wants_info found) (clean top.0) (clean-needed top.0 found before told all top.3) told more all.known in
              let whole : list_any (clean top.0) (told ++ more) ≡ true = grind (arith, list_any-append (clean top.0) told more, top.2) in
              let less = any-wider (clean top.0) (clean n) (left ++ more) (λ info. as-clean (span_ending after last) (span_ending after last) top.0 n info refl top.1) (kept ∙ whole) in
              let all' : list_any (clean n) (told ++ more) ≡ true = grind (arith, list_any-append (clean n) told more) in
              less ∙ sym all'
          | inr none ↦
              let gone = needed-none (wants_info found) (clean n) told none in
              list_any-append (clean n) left more ∙ ap (λ b. b || list_any (clean n) more) (gone ∙ sym none) ∙ sym (list_any-append (clean n) told more)
        ]

  -- and the last report that counts with an entry of a number
  told-needed : (member : Member) (v : ℕ) (found : Option GroupLog) → Before found
      → NeedsLast (λ (report : Report). report.stamp ≤ epoch) (wants_report found) (tells_of incs after member v)
  told-needed member v None before later report early all told none = refl
  told-needed member v (Some g) before later report early all told none =
      let alone = none-narrower (replaces_number report v) (tells_of incs after member v)
      (λ other again. grind (arith, nat_tests, same_member)) later none in
      let a = and_parts (is_told incs after member report) (has_number v report.log) told in
      let found = any-contains (λ (entry : LogEntry). nat_eq entry.version.v v) report.log a.1 in
      let is : nat_eq found.0.version.v v ≡ true = found.1.1 in
      let kept = contains-any (λ (entry : LogEntry). not (list_any (replaces_number report entry.version.v) later)) report.log in
      grind (arith, nat_tests, a.0, alone, kept found.0 found.1.0, (before g refl).counted report.member report.stamp early)

  -- the last entry of each number is the same, whatever follows
  pub told-alike : (member : Member) (found : Option GroupLog) → Before found → (told more : List Report) → ((report : Report) → Contains told report → report.stamp ≤ epoch)
      → AlikeByNumber (entries_in (is_told incs after member) (needed_of (wants_report found) told ++ more)) (entries_in (is_told incs after member) (told ++ more))
  told-alike member found before told more early v =
      last-number v (is_told incs after member) (needed_of (wants_report found) told ++ more)
      ∙ ap (option_and_then (λ (report : Report). last_where (has v) report.log))
      (needed-last (λ (report : Report). report.stamp ≤ epoch) (wants_report found) (tells_of incs after member v) (told-needed member v found before) None told more early)
      ∙ sym (last-number v (is_told incs after member) (told ++ more))

  pub told-same : (member : Member) (found : Option GroupLog) → Before found → (told more : List Report) → ((report : Report) → Contains told report → report.stamp ≤ epoch)
      → by_number (entries_in (is_told incs after member) (needed_of (wants_report found) told ++ more)) ≡ by_number (entries_in (is_told incs after member) (told ++ more))
  told-same member found before told more early = by_number-same _ _ (told-alike member found before told more early)
