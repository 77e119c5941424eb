-- What a group keeps as its log grows.
use Rattle.pgp_group.proofs.Common.{◌≡◌, ◌≢◌, ◌≤◌, ℕ, ◌+◌, ◌-◌, List, [], ◌∷◌, ◌++◌, Option, Some, None, true, false, ◌||◌, nat_eq, refl, ap, sym, ◌∙◌, subst, inl, inr, append-nil, map, filter, list_any, map-append, option_map, Result, Ok, Err, OnOk, enough_of, is_by_place, code_of, AnyCode, Entry, PrimaryFacts, Incremental, Membership, Past, PgId, PoolSpec, Info, Report, History, begun, grown, last_place, Running, IsIntervalsOf, ending_at, past_intervals, past_intervals-more, past_intervals-goes_on, past_intervals-over, epoch, map_fault, then_with, pool, has_group, is_same_group, pool_membership, membership, inc_of, report_of, incs_of, infos_of, reports_of, EpochsAscend, grown_with, passed_over, group_history, made_at, primary_facts, GroupLog, cleans, group_with, infos, reports, Keeps, IsGroupOf, IsSilent, has_osd, was_member, KeepsInfos, TakesInfo, KeepsNames, KeepsPrior, KeepsReports, IsReportedBy, les, past, Group, Infos, NamedDevices, KeptPrior, Reports, arith, nat_tests}
use Rattle.pgp_ids.specs.declared.entry.Entry.TheVariants as entry
use Rattle.pgp_ids.specs.declared.pool.PoolKind.{PoolKind}
pub use Rattle.pgp_lists.proofs.Results.{on_err}
use Rattle.std.specs.Result.{OnErr}
use Rattle.pgp_group.specs.Entries.{info_of}
use Rattle.pgp_group.proofs.FirstLemmas.{past_of, step-moves}
use Rattle.pgp_group.proofs.GrowthLemmas.{history-begins, history-grows, later_epoch, epochs_ascend-more}
use Rattle.pgp_group.proofs.InfosLemmas.{moves, KeepsInfos-on}
use Rattle.pgp_group.proofs.LaterLemmas.{outlasts-same, outlasts-inc, les-later}
use Rattle.pgp_group.proofs.Lists.{any-mapped, nothing_new, one_new, kept_new, left_new}
use Rattle.pgp_group.proofs.NamedLemmas.{KeepsNames-begun, KeepsNames-same, KeepsNames-ended}
use Rattle.pgp_group.proofs.PriorLemmas.{KeepsPrior-grown}
use Rattle.pgp_group.proofs.ReportsLemmas.{KeepsReports-on}

-- ---- an entry that brings no map

-- the epoch in which the group last began to serve never falls
pub les-grows : (log : List Entry) (new : Entry) (pg : PgId) (h after : History AnyCode) → les (group_with log pg h) ≤ les (group_with (log ++ new ∷ []) pg after)
les-grows log new pg h after = les-later log (new ∷ []) pg

-- the past intervals stay, and the current one may join them
past-grows : (epochs : List ℕ) (h : History AnyCode) (passed : ℕ) (members : Membership) (facts : PrimaryFacts) → (later : List Past) × (past_of epochs (grown h passed members facts) ≡ past_of epochs h ++ later)
past-grows epochs h passed members facts = elim (step-moves h passed members facts) [
  | inl goes ↦ ([], goes.past epochs ∙ sym (append-nil (past_of epochs h)))
  | inr over ↦ (ending_at enough_of is_by_place epochs h (h.first + last_place h + passed + 1 - 1) facts ∷ [], over.past epochs)
]

-- what an entry that brings no map leaves as it is: the intervals, and whom the group had to hear
abbrev pub left_alone : Group → Running AnyCode × KeptPrior
left_alone group = (group.intervals, group.reckoned)

-- the epochs in which the group was clean are those of before, where no info of it came
cleans-same : (g after : GroupLog) → infos after ≡ infos g → cleans after ≡ cleans g
cleans-same g after told = ap (map (λ (info : Info). info.last_epoch_clean)) told

-- and so are its past intervals, where its history stays too
pub past-same : (g after : GroupLog) → after.history ≡ g.history → infos after ≡ infos g → past after ≡ past g
past-same g after same told = λ i. past_intervals enough_of is_by_place (cleans-same g after told i) (same i)

-- the intervals are those of the group still
intervals-same : (g after : GroupLog) (intervals : Running AnyCode) → infos after ≡ infos g → IsIntervalsOf enough_of is_by_place after.history (cleans g) intervals → IsIntervalsOf enough_of is_by_place after.history (cleans after) intervals
intervals-same g after intervals told is = subst (λ (epochs : List ℕ). IsIntervalsOf enough_of is_by_place after.history epochs intervals) (sym (cleans-same g after told)) is

-- what a group has, after an entry that brings no map
pub IsGroupOf-report : (log : List Entry) (new : Entry) (pg : PgId) (old group : Group) (is : IsGroupOf log pg old)
    → inc_of new ≡ None → Keeps (group_with (log ++ new ∷ []) pg is.history) group → IsGroupOf (log ++ new ∷ []) pg group
IsGroupOf-report log new pg old group is none kept =
    let same : incs_of (log ++ new ∷ []) ≡ incs_of log = nothing_new inc_of log new none in
    record {
      history = is.history;
      history_is = ap (λ (l : List Incremental). group_history l pg) same ∙ is.history_is;
      ascend = subst EpochsAscend (sym same) is.ascend;
      keeps = kept;
    }

-- the same, where it brings no info of the group either
pub IsGroupOf-other : (log : List Entry) (new : Entry) (pg : PgId) (old group : Group) (is : IsGroupOf log pg old) → inc_of new ≡ None
    → filter (λ (i : Info). is_same_group i.pg pg) (infos_of (log ++ new ∷ [])) ≡ filter (λ (i : Info). is_same_group i.pg pg) (infos_of log)
    → group.pg ≡ old.pg → left_alone group ≡ left_alone old
    → KeepsInfos (group_with (log ++ new ∷ []) pg is.history) group.infos
    → KeepsReports (group_with (log ++ new ∷ []) pg is.history) group.reports
    → KeepsNames (group_with (log ++ new ∷ []) pg is.history) group.named
    → IsGroupOf (log ++ new ∷ []) pg group
IsGroupOf-other log new pg old group is none told pg_is left infos' reports' named' =
    let g : GroupLog = group_with log pg is.history in
    let after : GroupLog = group_with (log ++ new ∷ []) pg is.history in
    IsGroupOf-report log new pg old group is none (record {
      pg_is = pg_is ∙ is.keeps.pg_is;
      intervals_are = grind (arith, nat_tests, intervals-same);
      infos_are = infos';
      reports_are = reports';
      named_are = named';
      prior_is = subst (KeepsPrior after) (sym (ap (λ (parts : Running AnyCode × KeptPrior). parts.1) left))
          (KeepsPrior-grown g after old.reckoned [] refl
          (past-same g after refl told ∙ sym (append-nil (past g))) (les-grows log new pg is.history is.history) is.keeps.prior_is);
    })

-- an info of the group, and one of another
pub infos-new : (log : List Entry) (info : Info) (pg : PgId) → is_same_group info.pg pg ≡ true
    → filter (λ (i : Info). is_same_group i.pg pg) (infos_of (log ++ entry.Info info ∷ [])) ≡ filter (λ (i : Info). is_same_group i.pg pg) (infos_of log) ++ info ∷ []
infos-new log info pg same = ap (filter (λ (i : Info). is_same_group i.pg pg)) (one_new info_of log (entry.Info info) info refl) ∙ kept_new (λ (i : Info). is_same_group i.pg pg) (infos_of log) info same

pub infos-other : (log : List Entry) (info : Info) (pg : PgId) → is_same_group info.pg pg ≡ false
    → filter (λ (i : Info). is_same_group i.pg pg) (infos_of (log ++ entry.Info info ∷ [])) ≡ filter (λ (i : Info). is_same_group i.pg pg) (infos_of log)
infos-other log info pg differ = ap (filter (λ (i : Info). is_same_group i.pg pg)) (one_new info_of log (entry.Info info) info refl) ∙ left_new (λ (i : Info). is_same_group i.pg pg) (infos_of log) info differ

-- the same of reports of log entries
pub reports-new : (log : List Entry) (report : Report) (pg : PgId) → is_same_group report.pg pg ≡ true
    → filter (λ (r : Report). is_same_group r.pg pg) (reports_of (log ++ entry.Entries report ∷ [])) ≡ filter (λ (r : Report). is_same_group r.pg pg) (reports_of log) ++ report ∷ []
reports-new log report pg same = ap (filter (λ (r : Report). is_same_group r.pg pg)) (one_new report_of log (entry.Entries report) report refl) ∙ kept_new (λ (r : Report). is_same_group r.pg pg) (reports_of log) report same

pub reports-other : (log : List Entry) (report : Report) (pg : PgId) → is_same_group report.pg pg ≡ false
    → filter (λ (r : Report). is_same_group r.pg pg) (reports_of (log ++ entry.Entries report ∷ [])) ≡ filter (λ (r : Report). is_same_group r.pg pg) (reports_of log)
reports-other log report pg differ = ap (filter (λ (r : Report). is_same_group r.pg pg)) (one_new report_of log (entry.Entries report) report refl) ∙ left_new (λ (r : Report). is_same_group r.pg pg) (reports_of log) report differ

-- an entry that tells no info, or no log entries
pub infos-same : (log : List Entry) (new : Entry) (pg : PgId) → info_of new ≡ None
    → filter (λ (i : Info). is_same_group i.pg pg) (infos_of (log ++ new ∷ [])) ≡ filter (λ (i : Info). is_same_group i.pg pg) (infos_of log)
infos-same log new pg none = ap (filter (λ (i : Info). is_same_group i.pg pg)) (nothing_new info_of log new none)

pub reports-same : (log : List Entry) (new : Entry) (pg : PgId) → report_of new ≡ None
    → filter (λ (r : Report). is_same_group r.pg pg) (reports_of (log ++ new ∷ [])) ≡ filter (λ (r : Report). is_same_group r.pg pg) (reports_of log)
reports-same log new pg none = ap (filter (λ (r : Report). is_same_group r.pg pg)) (nothing_new report_of log new none)

-- the infos of a group, after an entry that brings neither a map nor an info of the group
pub infos-kept : (log : List Entry) (new : Entry) (pg : PgId) (h : History AnyCode) (kept : Infos) → inc_of new ≡ None
    → filter (λ (info : Info). is_same_group info.pg pg) (infos_of (log ++ new ∷ [])) ≡ filter (λ (info : Info). is_same_group info.pg pg) (infos_of log)
    → KeepsInfos (group_with log pg h) kept → KeepsInfos (group_with (log ++ new ∷ []) pg h) kept
infos-kept log new pg h kept none told is =
    KeepsInfos-on (group_with log pg h) (group_with (log ++ new ∷ []) pg h) kept
    (outlasts-same _ _ (nothing_new inc_of log new none) refl) told is

-- the same of reports of log entries
pub reports-kept : (log : List Entry) (new : Entry) (pg : PgId) (h : History AnyCode) (kept : Reports) → inc_of new ≡ None
    → filter (λ (report : Report). is_same_group report.pg pg) (reports_of (log ++ new ∷ [])) ≡ filter (λ (report : Report). is_same_group report.pg pg) (reports_of log)
    → KeepsReports (group_with log pg h) kept → KeepsReports (group_with (log ++ new ∷ []) pg h) kept
reports-kept log new pg h kept none told is =
    KeepsReports-on (group_with log pg h) (group_with (log ++ new ∷ []) pg h) kept
    (outlasts-same _ _ (nothing_new inc_of log new none) refl) told is

-- the same of the devices of which it speaks
pub names-kept : (log : List Entry) (new : Entry) (pg : PgId) (h : History AnyCode) (named : NamedDevices)
    → filter (λ (info : Info). is_same_group info.pg pg) (infos_of (log ++ new ∷ [])) ≡ filter (λ (info : Info). is_same_group info.pg pg) (infos_of log)
    → filter (λ (report : Report). is_same_group report.pg pg) (reports_of (log ++ new ∷ [])) ≡ filter (λ (report : Report). is_same_group report.pg pg) (reports_of log)
    → KeepsNames (group_with log pg h) named → KeepsNames (group_with (log ++ new ∷ []) pg h) named
names-kept log new pg h named told sent is = grind (arith, past-same (group_with log pg h) (group_with (log ++ new ∷ []) pg h) refl told)

-- an info of the group
pub infos-told : (log : List Entry) (info : Info) (pg : PgId) (h : History AnyCode) → is_same_group info.pg pg ≡ true
    → TakesInfo (group_with log pg h) info (group_with (log ++ entry.Info info ∷ []) pg h)
infos-told log info pg h same = search (infos-new, nothing_new)

-- a report of the group
pub reports-told : (log : List Entry) (report : Report) (pg : PgId) (h : History AnyCode) → is_same_group report.pg pg ≡ true
    → IsReportedBy (group_with log pg h) report (group_with (log ++ entry.Entries report ∷ []) pg h)
reports-told log report pg h same = search (reports-new, nothing_new)

-- the epochs in which the group was clean, by one info more
pub cleans-told : (log : List Entry) (info : Info) (pg : PgId) (h : History AnyCode) → is_same_group info.pg pg ≡ true
    → cleans (group_with (log ++ entry.Info info ∷ []) pg h) ≡ cleans (group_with log pg h) ++ info.last_epoch_clean ∷ []
cleans-told log info pg h same =
    ap (map (λ (i : Info). i.last_epoch_clean)) (infos-new log info pg same)
    ∙ map-append (λ (i : Info). i.last_epoch_clean) (infos (group_with log pg h)) (info ∷ [])

-- in its past intervals the same devices stood
pub stood-told : (log : List Entry) (info : Info) (pg : PgId) (h : History AnyCode) → is_same_group info.pg pg ≡ true → (osd : ℕ)
    → list_any (was_member osd) (past (group_with (log ++ entry.Info info ∷ []) pg h)) ≡ list_any (was_member osd) (past (group_with log pg h))
stood-told log info pg h same osd = search (cleans-told, past_intervals-more, any-mapped)

-- ---- an incremental

pub IsGroupOf-inc : (log : List Entry) (inc : Incremental) (pg : PgId) (old group : Group) (members : Membership) (is : IsGroupOf log pg old) → map_fault (incs_of log) inc ≡ None
    → membership (then_with (incs_of log) inc) pg ≡ Some members
    → group.pg ≡ old.pg → group.infos ≡ old.infos → group.reports ≡ old.reports → group.reckoned ≡ old.reckoned
    → IsIntervalsOf enough_of is_by_place (grown_with (incs_of log) inc is.history members) (cleans (group_with log pg is.history)) group.intervals
    → KeepsNames (group_with (log ++ entry.Inc inc ∷ []) pg (grown_with (incs_of log) inc is.history members)) group.named
    → IsGroupOf (log ++ entry.Inc inc ∷ []) pg group
IsGroupOf-inc log inc pg old group members is fine lies pg_is infos' reports' reckoned' intervals named' =
    let incs : incs_of (log ++ entry.Inc inc ∷ []) ≡ then_with (incs_of log) inc = one_new inc_of log (entry.Inc inc) inc refl in
    let after : History AnyCode = grown_with (incs_of log) inc is.history members in
    let told = infos-same log (entry.Inc inc) pg refl in
    let on = outlasts-inc (group_with log pg is.history) (group_with (log ++ entry.Inc inc ∷ []) pg after) inc incs
    (later_epoch (incs_of log) inc fine)
    (moves (incs_of log) inc pg is.history members is.ascend (later_epoch (incs_of log) inc fine) is.history_is) in
    let grows = past-grows (cleans (group_with log pg is.history)) is.history (passed_over (incs_of log) inc) members (primary_facts (incs_of log) is.history.current.acting_primary) in
    record {
      history = after;
      history_is = grind (arith, history-grows (incs_of log) inc pg is.history is.ascend fine is.history_is);
      ascend = subst EpochsAscend (sym incs) (epochs_ascend-more (incs_of log) inc is.ascend fine);
      keeps = record {
        pg_is = pg_is ∙ is.keeps.pg_is;
        intervals_are = intervals-same (group_with log pg is.history) (group_with (log ++ entry.Inc inc ∷ []) pg after) group.intervals told intervals;
        infos_are = subst (KeepsInfos (group_with (log ++ entry.Inc inc ∷ []) pg after)) (sym infos')
            (KeepsInfos-on (group_with log pg is.history)
            (group_with (log ++ entry.Inc inc ∷ []) pg after) old.infos on told is.keeps.infos_are);
        reports_are = subst (KeepsReports (group_with (log ++ entry.Inc inc ∷ []) pg after)) (sym reports')
            (KeepsReports-on (group_with log pg is.history)
            (group_with (log ++ entry.Inc inc ∷ []) pg after) old.reports on
            (reports-same log (entry.Inc inc) pg refl) is.keeps.reports_are);
        named_are = named';
        prior_is = subst (KeepsPrior (group_with (log ++ entry.Inc inc ∷ []) pg after)) (sym reckoned')
            (KeepsPrior-grown (group_with log pg is.history) (group_with (log ++ entry.Inc inc ∷ []) pg after) old.reckoned grows.0 refl
            (past-same (group_with log pg after) (group_with (log ++ entry.Inc inc ∷ []) pg after) refl told ∙ grows.1) (les-grows log (entry.Inc inc) pg is.history after) is.keeps.prior_is);
      };
    }

-- the interval goes on
pub names-stay : (log : List Entry) (inc : Incremental) (pg : PgId) (h : History AnyCode) (passed : ℕ) (facts : PrimaryFacts) (named : NamedDevices)
    → KeepsNames (group_with log pg h) named → KeepsNames (group_with (log ++ entry.Inc inc ∷ []) pg (grown h passed h.current facts)) named
names-stay log inc pg h passed facts named is =
    KeepsNames-same (group_with log pg h) (group_with (log ++ entry.Inc inc ∷ []) pg (grown h passed h.current facts)) named named
    (simp (infos-same, past_intervals-goes_on))
    (infos-same log (entry.Inc inc) pg refl) (reports-same log (entry.Inc inc) pg refl) refl is

-- the interval ends
pub names-end : (log : List Entry) (inc : Incremental) (pg : PgId) (h : History AnyCode) (passed : ℕ) (members : Membership) (facts : PrimaryFacts) (old mid new : NamedDevices) → members ≢ h.current
    → ((osd : ℕ) → list_any (nat_eq osd) mid.osds.items ≡ (has_osd osd h.current.up || list_any (nat_eq osd) old.osds.items))
    → ((osd : ℕ) → list_any (nat_eq osd) new.osds.items ≡ (has_osd osd h.current.acting || list_any (nat_eq osd) mid.osds.items))
    → KeepsNames (group_with log pg h) old → KeepsNames (group_with (log ++ entry.Inc inc ∷ []) pg (grown h passed members facts)) new
names-end log inc pg h passed members facts old mid new differ up acting is =
    KeepsNames-ended (group_with log pg h) (group_with (log ++ entry.Inc inc ∷ []) pg (grown h passed members facts)) old mid new (ending_at enough_of is_by_place (cleans (group_with log pg h)) h (h.first + last_place h + passed) facts)
    (simp (infos-same, past_intervals-over)) (infos-same log (entry.Inc inc) pg refl) (reports-same log (entry.Inc inc) pg refl) up acting is

-- ---- the first epoch

begun_as : (incs : List Incremental) (pg : PgId) (kind : PoolKind) (members : Membership) (found : Option PoolSpec) → option_map (λ made. made.kind) found ≡ Some kind → option_map (pool_membership incs pg) found ≡ Some members
    → option_map (λ made. begun (code_of made.kind) (epoch incs) (pool_membership incs pg made)) found ≡ Some (begun (code_of kind) (epoch incs) members)
begun_as incs pg kind members None is lies = cc
begun_as incs pg kind members (Some made) is lies = grind arith

pub IsGroupOf-begun : (log : List Entry) (pg : PgId) (kind : PoolKind) (members : Membership) (group : Group) → EpochsAscend (incs_of log) → has_group (incs_of log) pg ≡ true → made_at (incs_of log) pg.pool ≡ epoch (incs_of log) → IsSilent log pg
    → option_map (λ made. made.kind) (pool (incs_of log) pg.pool) ≡ Some kind → membership (incs_of log) pg ≡ Some members
    → group.pg ≡ pg → ((g : GroupLog) → infos g ≡ [] → KeepsInfos g group.infos) → ((g : GroupLog) → reports g ≡ [] → KeepsReports g group.reports)
    → IsIntervalsOf enough_of is_by_place (begun (code_of kind) (epoch (incs_of log)) members) [] group.intervals → group.named.osds.items ≡ []
    → ((g : GroupLog) → g.history.code ≡ code_of kind → KeepsPrior g group.reckoned)
    → IsGroupOf log pg group
IsGroupOf-begun log pg kind members group counts there now silent is lies pg_is none nothing intervals nobody unasked = record {
  history = begun (code_of kind) (epoch (incs_of log)) members;
  history_is = history-begins (incs_of log) pg now there ∙ begun_as (incs_of log) pg kind members (pool (incs_of log) pg.pool) is lies;
  ascend = counts;
  keeps = record {
    pg_is = pg_is;
    intervals_are = grind arith;
    infos_are = none (group_with log pg (begun (code_of kind) (epoch (incs_of log)) members)) silent.infos;
    reports_are = nothing (group_with log pg (begun (code_of kind) (epoch (incs_of log)) members)) silent.reports;
    named_are = KeepsNames-begun (group_with log pg (begun (code_of kind) (epoch (incs_of log)) members)) group.named refl silent.infos silent.reports nobody;
    prior_is = unasked (group_with log pg (begun (code_of kind) (epoch (incs_of log)) members)) refl;
  };
}

-- the group stands for the log, where it keeps what the other one does
pub IsGroupOf-kept : (log : List Entry) (pg : PgId) (old group : Group) (is : IsGroupOf log pg old)
    → Keeps (group_with log pg is.history) group → IsGroupOf log pg group
IsGroupOf-kept log pg old group is kept = record { history = is.history; history_is = is.history_is; ascend = is.ascend; keeps = kept }

-- so it is also where its parts are kept elsewhere, as after an error
pub same_after_error : {T E : Type 0} (r : Result T E) (old group : Group) → group.pg ≡ old.pg → group.intervals ≡ old.intervals → ((g : GroupLog) → KeepsInfos g old.infos → KeepsInfos g group.infos) → ((g : GroupLog) → KeepsReports g old.reports → KeepsReports g group.reports) → group.named.osds.items ≡ old.named.osds.items → group.reckoned ≡ old.reckoned
    → OnErr r ((log : List Entry) (pg : PgId) → IsGroupOf log pg old → IsGroupOf log pg group)
same_after_error r old group pg_is intervals infos' reports' named' reckoned' = on_err r _ (λ log pg is. IsGroupOf-kept log pg old group is (record {
  pg_is = pg_is ∙ is.keeps.pg_is;
  intervals_are = subst (IsIntervalsOf enough_of is_by_place is.history (cleans (group_with log pg is.history))) (sym intervals) is.keeps.intervals_are;
  infos_are = infos' (group_with log pg is.history) is.keeps.infos_are;
  reports_are = reports' (group_with log pg is.history) is.keeps.reports_are;
  named_are = KeepsNames-same (group_with log pg is.history) (group_with log pg is.history) old.named group.named refl refl refl named' is.keeps.named_are;
  prior_is = subst (KeepsPrior (group_with log pg is.history)) (sym reckoned') is.keeps.prior_is;
}))

-- the same, where a group that keeps its parts elsewhere has reckoned anew whom it has to hear
pub IsGroupOf-reckoned : (log : List Entry) (pg : PgId) (old group : Group) (new : KeptPrior) (is : IsGroupOf log pg old) → Keeps (group_with log pg is.history) group → (KeepsPrior (group_with log pg is.history) group.reckoned → KeepsPrior (group_with log pg is.history) new) → IsGroupOf log pg (record group { reckoned = new })
IsGroupOf-reckoned log pg old group new is kept renews = search IsGroupOf-kept

-- ---- what holds of a result

pub on_ok : {T E : Type 0} (r : Result T E) (P Q : Type 0) → (P → Q) → OnOk r P → OnOk r Q
on_ok (Ok x) P Q gives given = gives given
on_ok (Err e) P Q gives given = given

-- an incremental brings a map
pub no_map : {P : Type 0} (e : Entry) (inc : Incremental) → e ≡ entry.Inc inc → inc_of e ≡ None → P
no_map {P = P} e inc is none = grind (arith, nat_tests)

-- ---- of which devices it speaks
