-- A log that is compacted is so once for all.
use Rattle.pgp_compact.proofs.Common.{AnyCode, Bool, Entry, GroupLog, History, Info, List, LogEntry, None, Option, PgId, Report, Some, Span, [], any-contains, ap, append-nil, arith, clean_spans, compacted, contains-any, current_span, false, group_history, group_in, group_with, incs_of, infos, infos_in, is_clean_from, is_needed, les, list_any, log-in, may_be_heard, nat_tests, needed_of, not, option_map, or-true, past_spans, refl, replaces, replaces_number, starts_as_late, tells_last_clean, tells_last_of, tells_last_start, true, ℕ, ◌++◌, ◌+◌, ◌||◌, ◌∙◌, ◌∷◌, ◌≡◌}
use Rattle.pgp_compact.proofs.NeededLemmas.{needed-none, needed-twice}
use Rattle.pgp_compact.proofs.PartLemmas.{any-wider, incs-same, infos-needed, reports-needed, starts-same, wants_info, wants_report}
use Rattle.pgp_ids.specs.declared.entry.Entry.TheVariants as entry

pub still-one : (a b c a' b' c' : Bool) → (a ≡ true → a' ≡ true) → (b ≡ true → b' ≡ true) → (c ≡ true → c' ≡ true) → (a || b || c) ≡ true → (a' || b' || c') ≡ true
still-one true b c a' b' c' first second third some = rw (first refl) refl
still-one false true c a' b' c' first second third some = rw (second refl, or-true) refl
still-one false false c a' b' c' first second third some = rw (third some, or-true) refl

module _ (log : List Entry) (pg : PgId) where
  les-same : (h : History AnyCode) → les (group_with (compacted log) pg h) ≡ les (group_with log pg h)
  les-same h =
      let told = starts-same (group_in log pg) (infos_in pg log) [] (λ g there. grind (arith, log-in log pg g there)) in
      grind (arith, infos-needed log log [] pg, append-nil, told)

  infos-left : (h : History AnyCode) → infos (group_with (compacted log) pg h) ≡ needed_of (wants_info (group_in log pg)) (infos_in pg log)
  infos-left h = simp append-nil at (infos-needed log log [] pg)

  spans-same : (h : History AnyCode) → clean_spans (group_with (compacted log) pg h) ≡ clean_spans (group_with log pg h)
  spans-same h = ap (λ (l : ℕ). past_spans h l ++ current_span h ∷ []) (les-same h)

  module _ (h : History AnyCode) (test : List Info → Info → Bool) (later : List Info) (info : Info) where
    abbrev old : GroupLog
    old = group_with log pg h

    abbrev new : GroupLog
    new = group_with (compacted log) pg h

    heard-still : may_be_heard old later info ≡ true → may_be_heard new (needed_of test later) info ≡ true
    heard-still heard = grind (arith, nat_tests, incs-same log, needed-none test (replaces info) later)

    start-still : tells_last_start old later info ≡ true → tells_last_start new (needed_of test later) info ≡ true
    start-still tells = grind (arith, nat_tests, les-same h, needed-none test (starts_as_late info) later)

    of-still : (span : Span) → tells_last_of old later info span ≡ true → tells_last_of new (needed_of test later) info span ≡ true
    of-still span tells =
        let whole = needed-none (wants_info (group_in log pg)) (is_clean_from span (info.last_epoch_clean + 1)) (infos_in pg log) in
        let rest = needed-none test (is_clean_from span info.last_epoch_clean) later in
        grind (arith, nat_tests, infos-left h, whole, rest)

    clean-still : tells_last_clean old later info ≡ true → tells_last_clean new (needed_of test later) info ≡ true
    clean-still tells =
        ap (list_any (tells_last_of new (needed_of test later) info)) (spans-same h)
        ∙ any-wider (tells_last_of old later info) (tells_last_of new (needed_of test later) info) (clean_spans old) of-still tells

  -- what is needed still is, where what comes later was compacted
  info-still : (found : Option (History AnyCode)) (test : List Info → Info → Bool) (later : List Info) (info : Info)
      → wants_info (option_map (group_with log pg) found) later info ≡ true
      → wants_info (option_map (group_with (compacted log) pg) found) (needed_of test later) info ≡ true
  info-still None test later info needed = refl
  info-still (Some h) test later info needed =
      still-one (may_be_heard (group_with log pg h) later info) (tells_last_start (group_with log pg h) later info) (tells_last_clean (group_with log pg h) later info)
      _ _ _ (heard-still h test later info) (start-still h test later info) (clean-still h test later info) needed

  report-still : (found : Option (History AnyCode)) (test : List Report → Report → Bool) (later : List Report) (report : Report)
      → wants_report (option_map (group_with log pg) found) later report ≡ true
      → wants_report (option_map (group_with (compacted log) pg) found) (needed_of test later) report ≡ true
  report-still None test later report needed = refl
  report-still (Some h) test later report needed =
      let lacks : List Report → LogEntry → Bool = λ reports entry. not (list_any (replaces_number report entry.version.v) reports) in
      let found = any-contains (lacks later) report.log in
      grind (arith, nat_tests, found, needed-none test, contains-any (lacks (needed_of test later)) report.log, incs-same)

still-needed : (log later : List Entry) (x : Entry) → is_needed log later x ≡ true → is_needed (compacted log) (needed_of (is_needed log) later) x ≡ true
still-needed log later (entry.Info info) needed =
    let still = info-still log info.pg (group_history (incs_of log) info.pg) in
    rw (incs-same log, simp append-nil at (infos-needed log later [] info.pg)) (still _ _ info needed)
still-needed log later (entry.Entries report) needed =
    let still = report-still log report.pg (group_history (incs_of log) report.pg) in
    rw (incs-same log, simp append-nil at (reports-needed log later [] report.pg)) (still _ _ report needed)
still-needed log later x needed = refl

pub compacted-twice : (log : List Entry) → compacted (compacted log) ≡ compacted log
compacted-twice log = needed-twice (is_needed log) (is_needed (compacted log)) (still-needed log) log
