-- A log that was compacted and goes on is compacted to what the whole log is, if that goes on so.
use Rattle.pgp_compact.proofs.Common.{AnyCode, Bool, Contains, Contains-here, Contains-later, Entry, GroupLog, History, Incremental, Info, List, LogEntry, None, Option, PgId, Report, Some, Span, [], and_parts, any-contains, any-same, ap, are_checked, arith, cases_Bool, clean_spans, compacted, contains-any, counts_by, current_span, epoch, false, filter-append, filter-contains, filter_map-append, filter_map-from, group_history, group_in, group_with, has_number, incs, incs_of, info_of, infos, infos_in, is_clean_from, is_counted, is_needed, is_same_group, is_in_span, les, list_any, list_any-append, may_be_heard, nat_eq, nat_le, nat_lt, nat_tests, needed_of, needs_info, needs_report, none-narrower, not, option_map, past_spans, refl, replaces, replaces_number, report_of, reports_in, same_member, starts_as_late, sym, tells_last_clean, tells_last_of, tells_last_start, true, ℕ, ◌&&◌, ◌++◌, ◌+◌, ◌||◌, ◌∙◌, ◌∷◌, ◌≡◌, ◌≤◌, any-agree}
use Rattle.pgp_compact.proofs.GoneOnLemmas.{IsSent, NeverCountsAgain, WasSent, all-told, before, clean-alike, incs-alike, infos-are, infos-whole, les-alike, less, whole}
use Rattle.pgp_compact.proofs.IntervalLemmas.{CanMatter, span_ending, spans-are, was-among}
use Rattle.pgp_compact.proofs.LegalLemmas.{group-stays}
use Rattle.pgp_compact.proofs.NeededLemmas.{NeedsLast, needed-any}
use Rattle.pgp_compact.proofs.PartLemmas.{AreAll, Before, any-wider, as-clean, clean-needed, incs-gone_on, infos-needed, none-among, reports-needed, wants_info, wants_report}
use Rattle.pgp_compact.proofs.TwiceLemmas.{still-one}
use Rattle.pgp_ids.specs.declared.entry.Entry.TheVariants as entry

-- ---- lists

needed-alike : {X : Type 0} (one other : List X → X → Bool) → ((later : List X) (x : X) → one later x ≡ other later x) → (xs : List X) → needed_of one xs ≡ needed_of other xs
needed-alike one other same [] = refl
needed-alike one other same (x ∷ xs) = grind (arith, cases_Bool (other xs x), same xs x, needed-alike one other same xs)

-- where a later test takes no notice of what an earlier one leaves out, and passes nothing of it
needed-again : {X : Type 0} (Holds : X → Type 0) (first second : List X → X → Bool) (more : List X)
    → ((later : List X) (x : X) → Holds x → ((y : X) → Contains later y → Holds y) → second (needed_of first later ++ more) x ≡ second (later ++ more) x)
    → ((later : List X) (x : X) → Holds x → ((y : X) → Contains later y → Holds y) → second (later ++ more) x ≡ true → first later x ≡ true)
    → (xs : List X) → ((y : X) → Contains xs y → Holds y) → needed_of second (needed_of first xs ++ more) ≡ needed_of second (xs ++ more)
needed-again Holds first second more keep drop' [] each = refl
needed-again {X = X} Holds first second more keep drop' (x ∷ xs) each =
    let later = λ (y : X) (there : Contains xs y). each y (Contains-later x xs y there) in
    let here = each x (Contains-here x xs) in
    let rest = needed-again Holds first second more keep drop' xs later in
    grind (arith, cases_Bool (first xs x), cases_Bool (second (xs ++ more) x), keep xs x here later, drop' xs x here later, rest)

none-front : {X : Type 0} (test : X → Bool) (xs ys : List X) → list_any test (xs ++ ys) ≡ false → list_any test xs ≡ false
none-front test xs ys none = grind (arith, cases_Bool (list_any test xs), list_any-append test xs ys)

same-and : (c a b : Bool) → (c ≡ true → a ≡ b) → (c && not a) ≡ (c && not b)
same-and false a b same = refl
same-and true a b same = ap not (same refl)

same-both : (c d a b : Bool) → (c ≡ true → d ≡ true → a ≡ b) → (c && d && not a) ≡ (c && d && not b)
same-both false d a b same = refl
same-both true false a b same = refl
same-both true true a b same = ap not (same refl refl)

-- ---- a group

module _ (never : NeverCountsAgain) (log more : List Entry) (pg : PgId) (after : History AnyCode) (checked : are_checked (incs_of (log ++ more)) ≡ true)
    (then' : group_history (incs_of (log ++ more)) pg ≡ Some after) (sent : IsSent log) where
  abbrev old : GroupLog
  old = whole never log more pg after checked then' sent

  abbrev new : GroupLog
  new = less never log more pg after checked then' sent

  abbrev wants : List Info → Info → Bool
  wants = wants_info (group_in log pg)

  abbrev asks : List Report → Report → Bool
  asks = wants_report (group_in log pg)

  abbrev last_epoch : ℕ
  last_epoch = epoch (incs_of log)

  abbrev came : List Info
  came = infos_in pg more

  first : Before (incs old) after (les old) last_epoch (group_in log pg)
  first = before never log more pg after checked then' sent

  all : AreAll (incs old) after (les old) last_epoch (group_in log pg) (infos_in pg log)
  all = all-told never log more pg after checked then' sent

  -- what counts then counted at the earlier one's stamp or later
  counts-later : (info other : Info) → is_counted old info.member info.stamp ≡ true → replaces info other ≡ true → counts_by (incs old) after other.member other.stamp ≡ true
  counts-later info other counts again = grind (arith, nat_tests, same_member)

  -- ---- infos

  abbrev Held : List Info → Type 0
  Held rest = (info : Info) → Contains rest info → (info.stamp ≤ last_epoch) × (info.last_epoch_clean ≤ last_epoch)

  replaces-needed : (info : Info) → is_counted old info.member info.stamp ≡ true → (found : Option GroupLog) → Before (incs old) after (les old) last_epoch found
      → NeedsLast (λ (o : Info). o.stamp ≤ last_epoch) (wants_info found) (replaces info)
  replaces-needed info counts None b later other early each again none = refl
  replaces-needed info counts (Some g) b later other early each again none =
      let is = (b g refl).counted other.member other.stamp early (counts-later info other counts again) in
      let alone = none-narrower (replaces other) (replaces info) (λ third once. grind (arith, nat_tests, same_member)) later none in
      rw (is, alone) refl

  starts-needed : (info : Info) → nat_lt 0 info.history_les ≡ true → nat_le (les old) info.history_les ≡ true → (found : Option GroupLog) → Before (incs old) after (les old) last_epoch found
      → NeedsLast (λ (o : Info). o.stamp ≤ last_epoch) (wants_info found) (starts_as_late info)
  starts-needed info some last None b later other early each again none = refl
  starts-needed info some last (Some g) b later other early each again none =
      let rises = (b g refl).starts in
      let above : nat_lt 0 other.history_les ≡ true = grind (arith, nat_tests) in
      let late : nat_le (les g) other.history_les ≡ true = grind (arith, nat_tests, rises) in
      let alone = none-narrower (starts_as_late other) (starts_as_late info) (λ third once. grind (arith, nat_tests)) later none in
      let is : tells_last_start g later other ≡ true = rw (above, late, alone) refl in
      grind (arith, nat_tests, is)

  heard-kept : (rest : List Info) (info : Info) → Held rest → may_be_heard old (needed_of wants rest ++ came) info ≡ may_be_heard old (rest ++ came) info
  heard-kept rest info held =
      same-and (is_counted old info.member info.stamp) (list_any (replaces info) (needed_of wants rest ++ came)) (list_any (replaces info) (rest ++ came))
      (λ counts. needed-any (λ (o : Info). o.stamp ≤ last_epoch) wants (replaces info) (replaces-needed info counts (group_in log pg) first) rest came (λ o there. (held o there).0))

  start-kept : (rest : List Info) (info : Info) → Held rest → tells_last_start old (needed_of wants rest ++ came) info ≡ tells_last_start old (rest ++ came) info
  start-kept rest info held =
      same-both (nat_lt 0 info.history_les) (nat_le (les old) info.history_les) (list_any (starts_as_late info) (needed_of wants rest ++ came)) (list_any (starts_as_late info) (rest ++ came))
      (λ some last. needed-any (λ (o : Info). o.stamp ≤ last_epoch) wants (starts_as_late info) (starts-needed info some last (group_in log pg) first) rest came (λ o there. (held o there).0))

  of-kept : (rest : List Info) (info : Info) → Held rest → (last : ℕ) → CanMatter after (les old) last
      → tells_last_of old (needed_of wants rest ++ came) info (span_ending after last) ≡ tells_last_of old (rest ++ came) info (span_ending after last)
  of-kept rest info held last matters =
      let clean : ℕ → Info → Bool = is_clean_from (span_ending after last) in
      let n : ℕ = info.last_epoch_clean in
      same-both (is_in_span n (span_ending after last)) (not (list_any (clean (n + 1)) (infos old))) (list_any (clean n) (needed_of wants rest ++ came)) (list_any (clean n) (rest ++ came))
      (λ within no_more.
      let none : list_any (clean (n + 1)) (infos_in pg log ++ came) ≡ false =
      ap (list_any (clean (n + 1))) (sym (infos-whole never log more pg after checked then' sent)) ∙ grind (arith, nat_tests) in
      needed-any (λ (o : Info). o.last_epoch_clean ≤ last_epoch) wants (clean n)
      (clean-needed (incs old) after (les old) last_epoch last matters n (group_in log pg) first (infos_in pg log) all (none-front (clean (n + 1)) (infos_in pg log) came none))
      rest came (λ o there. (held o there).1))

  clean-kept : (rest : List Info) (info : Info) → Held rest → tells_last_clean old (needed_of wants rest ++ came) info ≡ tells_last_clean old (rest ++ came) info
  clean-kept rest info held =
      any-agree (tells_last_of old (needed_of wants rest ++ came) info) (tells_last_of old (rest ++ came) info) (clean_spans old) (λ span there.
      let is = spans-are old span there in
      ap (tells_last_of old (needed_of wants rest ++ came) info) is.1 ∙ of-kept rest info held is.0 is.2 ∙ ap (tells_last_of old (rest ++ came) info) (sym is.1))

  info-kept : (rest : List Info) (info : Info) → Held rest → needs_info old (needed_of wants rest ++ came) info ≡ needs_info old (rest ++ came) info
  info-kept rest info held = λ i. heard-kept rest info held i || start-kept rest info held i || clean-kept rest info held i

  -- what wasn't needed isn't later
  clean-dropped : (g : GroupLog) → group_in log pg ≡ Some g → (rest : List Info) (info : Info) → Held rest → info.last_epoch_clean ≤ last_epoch
      → tells_last_clean old (rest ++ came) info ≡ true → tells_last_clean g rest info ≡ true
  clean-dropped g there rest info held known tells =
      let n : ℕ = info.last_epoch_clean in
      let b = first g there in
      let found = any-contains (tells_last_of old (rest ++ came) info) (clean_spans old) tells in
      let is = spans-are old found.0 found.1.0 in
      let span : Span = span_ending after is.0 in
      let told : tells_last_of old (rest ++ came) info span ≡ true = ap (tells_last_of old (rest ++ came) info) (sym is.1) ∙ found.1.1 in
      let within : is_in_span n span ≡ true = grind (arith, nat_tests) in
      let none : list_any (is_clean_from span (n + 1)) (infos old) ≡ false = grind (arith, nat_tests) in
      let none_later : list_any (is_clean_from span n) (rest ++ came) ≡ false = grind (arith, nat_tests) in
      let w = was-among g after b.on (les old) b.starts is.0 n is.2 (omega (arith, known, b.known)) within in
      let here : is_in_span n w.span ≡ true = w.same n (omega (arith, known, b.known)) ∙ within in
      let none_told : list_any (is_clean_from span (n + 1)) (infos_in pg log) ≡ false =
      none-front (is_clean_from span (n + 1)) (infos_in pg log) came (ap (list_any (is_clean_from span (n + 1))) (sym (infos-whole never log more pg after checked then' sent)) ∙ none) in
      let no_more : list_any (is_clean_from w.span (n + 1)) (infos g) ≡ false =
      ap (list_any (is_clean_from w.span (n + 1))) (infos-are never log more pg after checked then' sent g there)
      ∙ none-among (is_clean_from w.span (n + 1)) (is_clean_from span (n + 1)) (infos_in pg log)
      (λ other among. as-clean w.span span (n + 1) (n + 1) other (w.same other.last_epoch_clean (omega (arith, all.known other among, b.known))) (omega arith)) none_told in
      let no_same : list_any (is_clean_from w.span n) rest ≡ false =
      none-among (is_clean_from w.span n) (is_clean_from span n) rest
      (λ other among. as-clean w.span span n n other (w.same other.last_epoch_clean (omega (arith, (held other among).1, b.known))) (omega arith)) (none-front (is_clean_from span n) rest came none_later) in
      w.there (tells_last_of g rest info) (rw (here, no_more, no_same) refl)

  heard-dropped : (g : GroupLog) → group_in log pg ≡ Some g → (rest : List Info) (info : Info) → info.stamp ≤ last_epoch → may_be_heard old (rest ++ came) info ≡ true → may_be_heard g rest info ≡ true
  heard-dropped g there rest info early heard =
      let counts : counts_by (incs old) after info.member info.stamp ≡ true = grind (arith, nat_tests) in
      let none : list_any (replaces info) (rest ++ came) ≡ false = grind (arith, nat_tests) in
      rw ((first g there).counted info.member info.stamp early counts, none-front (replaces info) rest came none) refl

  start-dropped : (g : GroupLog) → group_in log pg ≡ Some g → (rest : List Info) (info : Info) → tells_last_start old (rest ++ came) info ≡ true → tells_last_start g rest info ≡ true
  start-dropped g there rest info tells =
      let none : list_any (starts_as_late info) (rest ++ came) ≡ false = grind (arith, nat_tests) in
      grind (arith, nat_tests, (first g there).starts, none-front (starts_as_late info) rest came none)

  info-dropped : (found : Option GroupLog) → group_in log pg ≡ found → (rest : List Info) (info : Info) → Held rest → (info.stamp ≤ last_epoch) × (info.last_epoch_clean ≤ last_epoch)
      → needs_info old (rest ++ came) info ≡ true → wants_info found rest info ≡ true
  info-dropped None there rest info held is needs = refl
  info-dropped (Some g) there rest info held is needs =
      still-one (may_be_heard old (rest ++ came) info) (tells_last_start old (rest ++ came) info) (tells_last_clean old (rest ++ came) info)
      (may_be_heard g rest info) (tells_last_start g rest info) (tells_last_clean g rest info)
      (heard-dropped g there rest info is.0) (start-dropped g there rest info) (clean-dropped g there rest info held is.1) needs

  -- by the compacted log the same infos are needed
  info-alike : (later : List Info) (info : Info) → needs_info new later info ≡ needs_info old later info
  info-alike later info =
      let heard : may_be_heard new later info ≡ may_be_heard old later info =
      λ i. counts_by (incs-alike never log more pg after checked then' sent i) after info.member info.stamp && not (list_any (replaces info) later) in
      let same : les new ≡ les old = sym (les-alike never log more pg after checked then' sent) in
      let start : tells_last_start new later info ≡ tells_last_start old later info = ap (λ (l : ℕ). nat_lt 0 info.history_les && nat_le l info.history_les && not (list_any (starts_as_late info) later)) same in
      let spans : clean_spans new ≡ clean_spans old = ap (λ (l : ℕ). past_spans after l ++ current_span after ∷ []) same in
      let clean : tells_last_clean new later info ≡ tells_last_clean old later info =
      ap (list_any (tells_last_of new later info)) spans
      ∙ any-agree (tells_last_of new later info) (tells_last_of old later info) (clean_spans old) (λ span there.
      let is = spans-are old span there in
      let n : ℕ = info.last_epoch_clean in
      let one = clean-alike never log more pg after checked then' sent is.0 (n + 1) is.2 in
      let of' : tells_last_of new later info (span_ending after is.0) ≡ tells_last_of old later info (span_ending after is.0) =
      ap (λ (b : Bool). is_in_span n (span_ending after is.0) && not b && not (list_any (is_clean_from (span_ending after is.0) n) later)) (sym one) in
      ap (tells_last_of new later info) is.1 ∙ of' ∙ ap (tells_last_of old later info) (sym is.1)) in
      λ i. heard i || start i || clean i

  -- ---- reports of log entries

  abbrev logged : List Report
  logged = reports_in pg more

  numbers-needed : (report : Report) (v : ℕ) → is_counted old report.member report.stamp ≡ true → (found : Option GroupLog) → Before (incs old) after (les old) last_epoch found
      → NeedsLast (λ (o : Report). o.stamp ≤ last_epoch) (wants_report found) (replaces_number report v)
  numbers-needed report v counts None b later other early each again none = refl
  numbers-needed report v counts (Some g) b later other early each again none =
      let counts' : counts_by (incs old) after other.member other.stamp ≡ true = grind (arith, nat_tests, same_member) in
      let is = (b g refl).counted other.member other.stamp early counts' in
      let numbered : has_number v other.log ≡ true = grind (arith, nat_tests) in
      let alone = none-narrower (replaces_number other v) (replaces_number report v) (λ third once. grind (arith, nat_tests, same_member)) later none in
      let found = any-contains (λ (entry : LogEntry). nat_eq entry.version.v v) other.log numbered in
      let is-v : nat_eq found.0.version.v v ≡ true = found.1.1 in
      let kept = contains-any (λ (entry : LogEntry). not (list_any (replaces_number other entry.version.v) later)) other.log in
      grind (arith, nat_tests, is, alone, kept found.0 found.1.0)

  report-kept : (rest : List Report) (report : Report) → ((o : Report) → Contains rest o → o.stamp ≤ last_epoch) → needs_report old (needed_of asks rest ++ logged) report ≡ needs_report old (rest ++ logged) report
  report-kept rest report held =
      let lacks : List Report → LogEntry → Bool = λ later entry. not (list_any (replaces_number report entry.version.v) later) in
      let same : is_counted old report.member report.stamp ≡ true → list_any (lacks (needed_of asks rest ++ logged)) report.log ≡ list_any (lacks (rest ++ logged)) report.log =
      λ counts. any-same (lacks (needed_of asks rest ++ logged)) (lacks (rest ++ logged)) report.log (λ entry.
      ap not (needed-any (λ (o : Report). o.stamp ≤ last_epoch) asks (replaces_number report entry.version.v) (numbers-needed report entry.version.v counts (group_in log pg) first) rest logged held)) in
      grind (arith, cases_Bool (is_counted old report.member report.stamp), same)

  report-dropped : (found : Option GroupLog) → group_in log pg ≡ found → (rest : List Report) (report : Report) → report.stamp ≤ last_epoch
      → needs_report old (rest ++ logged) report ≡ true → wants_report found rest report ≡ true
  report-dropped None there rest report early needs = refl
  report-dropped (Some g) there rest report early needs =
      let lacks : List Report → LogEntry → Bool = λ later entry. not (list_any (replaces_number report entry.version.v) later) in
      let a = and_parts (is_counted old report.member report.stamp) (list_any (lacks (rest ++ logged)) report.log) needs in
      let is = (first g there).counted report.member report.stamp early a.0 in
      let some = any-wider (lacks (rest ++ logged)) (lacks rest) report.log (λ entry none. grind (arith, nat_tests, none-front (replaces_number report entry.version.v) rest logged)) a.1 in
      rw (is, some) refl

  report-alike : (later : List Report) (report : Report) → needs_report new later report ≡ needs_report old later report
  report-alike later report =
      λ i. counts_by (incs-alike never log more pg after checked then' sent i) after report.member report.stamp
      && list_any (λ entry. not (list_any (replaces_number report entry.version.v) later)) report.log

-- ---- the entries of the log

module _ (never : NeverCountsAgain) (log more : List Entry) (checked : are_checked (incs_of (log ++ more)) ≡ true) (sent : IsSent log) where
  abbrev known : List Entry → Type 0
  known later = (x : Entry) → Contains later x → WasSent (epoch (incs_of log)) x

  infos-held : (later : List Entry) → known later → (pg : PgId) (info : Info) → Contains (infos_in pg later) info → (info.stamp ≤ epoch (incs_of log)) × (info.last_epoch_clean ≤ epoch (incs_of log))
  infos-held later each pg info there =
      let from = filter_map-from info_of later info (filter-contains (λ (i : Info). is_same_group i.pg pg) _ info there).0 in
      (each from.0 from.1).info info from.2

  reports-held : (later : List Entry) → known later → (pg : PgId) (report : Report) → Contains (reports_in pg later) report → report.stamp ≤ epoch (incs_of log)
  reports-held later each pg report there =
      let from = filter_map-from report_of later report (filter-contains (λ (r : Report). is_same_group r.pg pg) _ report there).0 in
      (each from.0 from.1).report report from.2

  infos-both : (pg : PgId) (later : List Entry) → infos_in pg (later ++ more) ≡ infos_in pg later ++ infos_in pg more
  infos-both pg later = grind (arith, filter_map-append, filter-append)

  reports-both : (pg : PgId) (later : List Entry) → reports_in pg (later ++ more) ≡ reports_in pg later ++ reports_in pg more
  reports-both pg later = grind (arith, filter_map-append, filter-append)

  -- by the history of the entry's group with all entries, if it has one
  info-keeps : (info : Info) (found : Option (History AnyCode)) → group_history (incs_of (log ++ more)) info.pg ≡ found → (rest : List Info) → ((o : Info) → Contains rest o → (o.stamp ≤ epoch (incs_of log)) × (o.last_epoch_clean ≤ epoch (incs_of log)))
      → wants_info (option_map (group_with (log ++ more) info.pg) found) (needed_of (wants_info (group_in log info.pg)) rest ++ infos_in info.pg more) info
      ≡ wants_info (option_map (group_with (log ++ more) info.pg) found) (rest ++ infos_in info.pg more) info
  info-keeps info None there rest held = refl
  info-keeps info (Some after) there rest held = info-kept never log more info.pg after checked there sent rest info held

  report-keeps : (report : Report) (found : Option (History AnyCode)) → group_history (incs_of (log ++ more)) report.pg ≡ found → (rest : List Report) → ((o : Report) → Contains rest o → o.stamp ≤ epoch (incs_of log))
      → wants_report (option_map (group_with (log ++ more) report.pg) found) (needed_of (wants_report (group_in log report.pg)) rest ++ reports_in report.pg more) report
      ≡ wants_report (option_map (group_with (log ++ more) report.pg) found) (rest ++ reports_in report.pg more) report
  report-keeps report None there rest held = refl
  report-keeps report (Some after) there rest held = report-kept never log more report.pg after checked there sent rest report held

  keeps : (later : List Entry) (x : Entry) → WasSent (epoch (incs_of log)) x → known later → is_needed (log ++ more) (needed_of (is_needed log) later ++ more) x ≡ is_needed (log ++ more) (later ++ more) x
  keeps later (entry.Info info) was each =
      let found = group_in (log ++ more) info.pg in
      ap (λ (l : List Info). wants_info found l info) (infos-needed log later more info.pg)
      ∙ info-keeps info (group_history (incs_of (log ++ more)) info.pg) refl (infos_in info.pg later) (infos-held later each info.pg)
      ∙ ap (λ (l : List Info). wants_info found l info) (sym (infos-both info.pg later))
  keeps later (entry.Entries report) was each =
      let found = group_in (log ++ more) report.pg in
      ap (λ (l : List Report). wants_report found l report) (reports-needed log later more report.pg)
      ∙ report-keeps report (group_history (incs_of (log ++ more)) report.pg) refl (reports_in report.pg later) (reports-held later each report.pg)
      ∙ ap (λ (l : List Report). wants_report found l report) (sym (reports-both report.pg later))
  keeps later (entry.Inc inc) was each = refl
  keeps later entry.Close was each = refl

  -- a group that the log has stays
  none-before : (pg : PgId) → group_history (incs_of (log ++ more)) pg ≡ None → group_in log pg ≡ None
  none-before pg none = group-stays log more pg checked none

  info-drops : (info : Info) (found : Option (History AnyCode)) → group_history (incs_of (log ++ more)) info.pg ≡ found → (rest : List Info)
      → ((o : Info) → Contains rest o → (o.stamp ≤ epoch (incs_of log)) × (o.last_epoch_clean ≤ epoch (incs_of log))) → (info.stamp ≤ epoch (incs_of log)) × (info.last_epoch_clean ≤ epoch (incs_of log))
      → wants_info (option_map (group_with (log ++ more) info.pg) found) (rest ++ infos_in info.pg more) info ≡ true → wants_info (group_in log info.pg) rest info ≡ true
  info-drops info None there rest held is needs = rw (none-before info.pg there) refl
  info-drops info (Some after) there rest held is needs = info-dropped never log more info.pg after checked there sent (group_in log info.pg) refl rest info held is needs

  report-drops : (report : Report) (found : Option (History AnyCode)) → group_history (incs_of (log ++ more)) report.pg ≡ found → (rest : List Report) → report.stamp ≤ epoch (incs_of log)
      → wants_report (option_map (group_with (log ++ more) report.pg) found) (rest ++ reports_in report.pg more) report ≡ true → wants_report (group_in log report.pg) rest report ≡ true
  report-drops report None there rest early needs = rw (none-before report.pg there) refl
  report-drops report (Some after) there rest early needs = report-dropped never log more report.pg after checked there sent (group_in log report.pg) refl rest report early needs

  drops : (later : List Entry) (x : Entry) → WasSent (epoch (incs_of log)) x → known later → is_needed (log ++ more) (later ++ more) x ≡ true → is_needed log later x ≡ true
  drops later (entry.Info info) was each needs =
      info-drops info (group_history (incs_of (log ++ more)) info.pg) refl (infos_in info.pg later) (infos-held later each info.pg) (was.info info refl)
      (ap (λ (l : List Info). wants_info (group_in (log ++ more) info.pg) l info) (sym (infos-both info.pg later)) ∙ needs)
  drops later (entry.Entries report) was each needs =
      report-drops report (group_history (incs_of (log ++ more)) report.pg) refl (reports_in report.pg later) (was.report report refl)
      (ap (λ (l : List Report). wants_report (group_in (log ++ more) report.pg) l report) (sym (reports-both report.pg later)) ∙ needs)
  drops later (entry.Inc inc) was each needs = refl
  drops later entry.Close was each needs = refl

  info-likes : (info : Info) (found : Option (History AnyCode)) → group_history (incs_of (log ++ more)) info.pg ≡ found → (later : List Info)
      → wants_info (option_map (group_with (compacted log ++ more) info.pg) found) later info ≡ wants_info (option_map (group_with (log ++ more) info.pg) found) later info
  info-likes info None there later = refl
  info-likes info (Some after) there later = info-alike never log more info.pg after checked there sent later info

  report-likes : (report : Report) (found : Option (History AnyCode)) → group_history (incs_of (log ++ more)) report.pg ≡ found → (later : List Report)
      → wants_report (option_map (group_with (compacted log ++ more) report.pg) found) later report ≡ wants_report (option_map (group_with (log ++ more) report.pg) found) later report
  report-likes report None there later = refl
  report-likes report (Some after) there later = report-alike never log more report.pg after checked there sent later report

  alike : (later : List Entry) (x : Entry) → is_needed (compacted log ++ more) later x ≡ is_needed (log ++ more) later x
  alike later (entry.Info info) =
      ap (λ (incs : List Incremental). wants_info (option_map (group_with (compacted log ++ more) info.pg) (group_history incs info.pg)) (infos_in info.pg later) info) (incs-gone_on log more)
      ∙ info-likes info (group_history (incs_of (log ++ more)) info.pg) refl (infos_in info.pg later)
  alike later (entry.Entries report) =
      ap (λ (incs : List Incremental). wants_report (option_map (group_with (compacted log ++ more) report.pg) (group_history incs report.pg)) (reports_in report.pg later) report) (incs-gone_on log more)
      ∙ report-likes report (group_history (incs_of (log ++ more)) report.pg) refl (reports_in report.pg later)
  alike later (entry.Inc inc) = refl
  alike later entry.Close = refl

  pub compacted-again : compacted (compacted log ++ more) ≡ compacted (log ++ more)
  compacted-again =
      needed-alike (is_needed (compacted log ++ more)) (is_needed (log ++ more)) alike (compacted log ++ more)
      ∙ needed-again (WasSent (epoch (incs_of log))) (is_needed log) (is_needed (log ++ more)) more keeps drops log sent
