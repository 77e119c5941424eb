-- What the whole log says of a group, and which entries are left of a log that is walked from its end.
use Rattle.pgp_compact.proofs.Common.{AreLastCleans, Contains, Contains-nil, Course, Entry, GroupLog, GroupPlace, HasReached, HasReadFront, HasReport, HashMap, Incremental, Info, IsCourse, IsMapOf, IsNext, IsPresent, List, None, Opening, Option, OsdMap, PgId, Report, Says, Some, Standing, Whole, [], ap, arith, checked-more, contains-filter, contains-filter_map, current_first, drop, drop-cons, epoch, faultless-inc, fits-faultless, front-legal, get_or, group_in, group_with, history-last, inc_of, incs-other, incs_of, info_of, infos_of, is_legal, is_same_group, legal-checked, legal-ascends, legal-last, length, les, log-in, map, map_fault, opening_in, option_and_then, option_map, past_spans, refl, report_of, reports_of, same-self, same_Some, standing_at, told_opening, started_by, suc, then_with, true, within, ℕ, ◌++◌, ◌+◌, ◌-◌, ◌<◌, ◌∙◌, ◌∷◌, ◌≡◌, ◌≤◌}
use Rattle.pgp_compact.proofs.LegalLemmas.{legal-sent}
use Rattle.pgp_ids.specs.declared.entry.Entry.TheVariants as entry

-- what is kept of a group
pub stands : (log : List Entry) (course : Course) (clean : ℕ) (opening : Option ℕ) → is_legal log ≡ true → IsCourse (incs_of log) course → course.les ≡ started_by log course.pg → clean ≤ epoch (incs_of log)
    → (place : GroupPlace) → course.place ≡ Some place
    → ((g : GroupLog) → course.first ≡ current_first g.history → course.spans.items ≡ past_spans g.history (les g) → HasReached g clean → opening ≡ opening_in g clean)
    → Some (record { first = course.first; les = course.les; opening = opening }) ≡ option_map (standing_at clean) (group_in log course.pg)
stands log course clean opening legal is told_opening known place some opens =
    let u = is.there place some in
    let g : GroupLog = group_with log course.pg u.history in
    let ends = history-last (incs_of log) course.pg u.history (legal-ascends log legal) u.history_is in
    let spans : course.spans.items ≡ past_spans u.history (les g) = u.spans_are ∙ ap (past_spans u.history) told_opening in
    let o : opening ≡ opening_in g clean = opens g u.first_is spans (omega (arith, ends, known)) in
    rw u.history_is (λ i. Some (record { first = u.first_is i; les = told_opening i; opening = o i }))

pub stands-absent : (log : List Entry) (course : Course) (clean : ℕ) → IsCourse (incs_of log) course → course.place ≡ None → None ≡ option_map (standing_at clean) (group_in log course.pg)
stands-absent log course clean is none = rw (is.absent none) refl

-- what is said of the interval of an epoch
pub stands-opening : (epoch : ℕ) (found : Option GroupLog) (standing : Standing) → Some standing ≡ option_map (standing_at epoch) found → standing.opening ≡ option_and_then (λ g. opening_in g epoch) found
stands-opening epoch None standing is = grind arith
stands-opening epoch (Some g) standing is = ap (λ (s : Standing). s.opening) (same_Some standing (standing_at epoch g) is)

pub no-clean : {S : Type 0} (log later : List Entry) (info : Info) (table : HashMap Opening ℕ S) → None ≡ option_map (standing_at info.last_epoch_clean) (group_in log info.pg)
    → AreLastCleans log later table → AreLastCleans log (entry.Info info ∷ later) table
no-clean log later info table is kept = at (group_in log info.pg) refl where
  at : (found : Option GroupLog) → group_in log info.pg ≡ found → AreLastCleans log (entry.Info info ∷ later) table
  at None none = rw none kept
  at (Some g) some = grind (arith, some)

-- the group depends on the map of its log
pub present : (log : List Entry) (pg : PgId) (g : GroupLog) (map : OsdMap) (clean : ℕ) (found : Standing) → group_in log pg ≡ Some g → IsMapOf (incs_of log) map → found ≡ standing_at clean g → IsPresent g map found.first
present log pg g map clean found there is stands' = grind (arith, log-in)

pub reports-info : (log : List Entry) (info : Info) → Contains log (entry.Info info) → HasReport log info.pg
reports-info log info there silent =
    let here = contains-filter_map info_of log (entry.Info info) info there refl in
    grind (arith, Contains-nil info, contains-filter (λ (i : Info). is_same_group i.pg info.pg) (infos_of log) info here, same-self)

pub reports-entries : (log : List Entry) (report : Report) → Contains log (entry.Entries report) → HasReport log report.pg
reports-entries log report there silent =
    let here = contains-filter_map report_of log (entry.Entries report) report there refl in
    grind (arith, Contains-nil report, contains-filter (λ (r : Report). is_same_group r.pg report.pg) (reports_of log) report here, same-self)

-- the log has reached the epoch in which an info of it says that the group was clean
pub reached-clean : (log : List Entry) (info : Info) → is_legal log ≡ true → Contains log (entry.Info info) → info.last_epoch_clean ≤ epoch (incs_of log)
reached-clean log info legal there = ((legal-sent log legal (entry.Info info) there).info info refl).1

pub comes-next : {inc : Incremental} {old map : OsdMap} (front : List Entry) (new : Entry) → new ≡ entry.Inc inc → is_legal (front ++ new ∷ []) ≡ true
    → IsMapOf (incs_of front) old → Says old (λ incs. map_fault incs inc ≡ None → IsMapOf (then_with incs inc) map)
    → IsNext (incs_of front) inc map
comes-next {inc = inc} front new here legal is goes =
    let fine = faultless-inc front new inc (ap inc_of here) (fits-faultless front new (legal-last front new legal)) in
    let checked = legal-checked front (front-legal front (new ∷ []) legal) in
    record { checked = checked-more (incs_of front) inc checked fine; after_is = goes (incs_of front) is fine }

pub read-other : (log front : List Entry) (new : Entry) (whole : Whole) → inc_of new ≡ None → HasReadFront log front whole → HasReadFront log (front ++ new ∷ []) whole
read-other log front new whole none is = grind (arith, incs-other)

pub one-earlier : {X : Type 0} (xs : List X) (step : ℕ) (x : X) → step < length xs → x ≡ get_or xs (length xs - 1 - step) x → drop (length xs - (step + 1)) xs ≡ x ∷ drop (length xs - step) xs
one-earlier xs step x within item =
    let next : suc (length xs - 1 - step) ≡ length xs - step = omega arith in
    grind (arith, drop-cons xs (length xs - 1 - step) x)
