-- Logs that are alike stay so with each entry that comes.
use Rattle.pgp_group.proofs.Common.{◌≡◌, ℕ, ◌-◌, List, [], ◌∷◌, ◌++◌, Bool, true, false, not, ◌||◌, Option, Some, None, is_some, nat_le, nat_lt, map, refl, ap, sym, ◌∙◌, subst, arith, cases_Bool, if◌then◌else◌, filter, filter-append, filter_map-append, map-append, option_map, option_map_or, same_Some, map_some, true≢false, enough_of, is_by_place, code_of, AnyCode, Entry, Incremental, Info, Member, Membership, Past, PgId, PrimaryFacts, Report, History, begun, ending_at, past_intervals, past_intervals-more, are_checked, is_up, map_fault, then_with, pool, has_group, is_same_group, pool_membership, inc_of, incs_of, infos_of, reports_of, group_history, group_with, primary_facts, cleans, les, past}
use Rattle.pgp_ids.specs.declared.entry.Entry.TheVariants as entry
use Rattle.pgp_ids.specs.declared.refusal.Refusal.TheVariants as refusal
use Rattle.pgp_interval.specs.Raised.{raised}
use Rattle.pgp_interval.specs.Runs.{past_interval as past_from}
use Rattle.pgp_map.proofs.CheckedLemmas.{checked-more}
use Rattle.pgp_map.specs.FaultNumber.{refusal_of}
use Rattle.pgp_group.specs.Entries.{info_of, report_of}
use Rattle.pgp_group.proofs.FirstLemmas.{Ends, GoesOn, Moves, moves, on, ends, past_of}
use Rattle.pgp_group.proofs.GroupLemmas.{infos-same, les-grows}
use Rattle.pgp_group.proofs.GrowthLemmas.{history-begins-made}
use Rattle.pgp_group.proofs.HistoryLemmas.{history-current}
use Rattle.pgp_group.proofs.OpeningLemmas.{primary-up}
use Rattle.pgp_group.proofs.ViewLemmas.{history_there}
use Rattle.pgp_log.proofs.ComingLemmas.{comes-with_pool}
use Rattle.pgp_log.proofs.TakeLemmas.{incs-inc, incs-other}
use Rattle.pgp_log.specs.Fits.{entry_fault}
use Rattle.pgp_log.specs.ReportFault.{has_bad_entries, has_bad_info, is_slot_of, report_fault}
use Rattle.pgp_map.specs.Alike.{SayTheSame}
use Rattle.pgp_join.specs.Alike.{AgreeOn, AreAlikeMaps, IsAlike, ending_from}
use Rattle.pgp_join.proofs.MapLemmas.{exists-alike, fault-alike, from-alike, has_group-alike, next-alike, next-same, thru-alike}
use Rattle.pgp_join.proofs.ViewLemmas.{code-is, current-is, ending-alike, members-alike}

-- ---- an entry has the same fault

module _ (log other : List Entry) (agree : AgreeOn log other) (checked : are_checked (incs_of log) ≡ true) (checked' : are_checked (incs_of other) ≡ true) where
  report-alike : (pg : PgId) (member : Member) (stamp : ℕ) (bad : Bool) → report_fault (incs_of other) pg member stamp bad ≡ report_fault (incs_of log) pg member stamp bad
  report-alike pg member stamp bad = λ i.
      if not (has_group-alike (incs_of log) (incs_of other) agree.maps_are.says pg i) then Some refusal.UnknownGroup
      else (if not (exists-alike (incs_of log) (incs_of other) agree.maps_are.says member.osd i) || not (option_map_or (is_slot_of member.slot) (agree.maps_are.says.pool_is pg.pool i) true) then Some refusal.UnknownMember
      else (if nat_lt (agree.maps_are.epoch_is i) stamp then Some refusal.FutureStamp
      else (if bad then Some refusal.BadVersion else None)))

  pub faults-alike : (new : Entry) → entry_fault other new ≡ entry_fault log new
  faults-alike (entry.Inc inc) = ap (option_map refusal_of) (fault-alike (incs_of log) (incs_of other) agree.maps_are inc checked checked')
  faults-alike (entry.Info info) = report-alike info.pg info.member info.stamp (has_bad_info info)
  faults-alike (entry.Entries report) = report-alike report.pg report.member report.stamp (has_bad_entries report)
  faults-alike entry.Close = refl

-- ---- past intervals

-- a mark changes no interval's last epoch
ending-raised : (from : ℕ) (enough : List ℕ → Bool) (by_place : Bool) (more : List ℕ) (past : List Past) → ending_from from (map (raised enough by_place more) past) ≡ map (raised enough by_place more) (ending_from from past)
ending-raised from enough by_place more [] = refl
ending-raised from enough by_place more (p ∷ past) = grind (arith, cases_Bool (nat_le from p.last), ending-raised from enough by_place more past)

ending-append : (from : ℕ) (past more : List Past) → ending_from from (past ++ more) ≡ ending_from from past ++ ending_from from more
ending-append from past more = filter-append (λ p. nat_le from p.last) past more

-- ---- an entry that brings no map

-- the clean epochs that the entry tells of the group
abbrev told_by : Entry → PgId → List ℕ
told_by new pg = map (λ info. info.last_epoch_clean) (filter (λ info. is_same_group info.pg pg) (infos_of (new ∷ [])))

cleans-more : (log : List Entry) (new : Entry) (pg : PgId) (h : History AnyCode) → cleans (group_with (log ++ new ∷ []) pg h) ≡ cleans (group_with log pg h) ++ told_by new pg
cleans-more log new pg h =
    ap (λ (l : List Info). map (λ info. info.last_epoch_clean) (filter (λ info. is_same_group info.pg pg) l)) (filter_map-append info_of log (new ∷ []))
    ∙ ap (map (λ (info : Info). info.last_epoch_clean)) (filter-append (λ (info : Info). is_same_group info.pg pg) (infos_of log) (infos_of (new ∷ [])))
    ∙ map-append (λ (info : Info). info.last_epoch_clean) (filter (λ info. is_same_group info.pg pg) (infos_of log)) (filter (λ info. is_same_group info.pg pg) (infos_of (new ∷ [])))

past-more : (log : List Entry) (new : Entry) (pg : PgId) (h : History AnyCode)
    → past (group_with (log ++ new ∷ []) pg h) ≡ map (raised (enough_of h.code) (is_by_place h.code) (told_by new pg)) (past (group_with log pg h))
past-more log new pg h =
    ap (λ (epochs : List ℕ). past_intervals enough_of is_by_place epochs h) (cleans-more log new pg h)
    ∙ past_intervals-more enough_of is_by_place (cleans (group_with log pg h)) (told_by new pg) h

told-alike : (log other : List Entry) (new : Entry) (pg : PgId) (h h' : History AnyCode) → h'.code ≡ h.code → IsAlike (group_with log pg h) (group_with other pg h') → IsAlike (group_with (log ++ new ∷ []) pg h) (group_with (other ++ new ∷ []) pg h')
told-alike log other new pg h h' code alike =
    let now : ℕ = les (group_with (log ++ new ∷ []) pg h) in
    let ending = ending-alike (les (group_with log pg h)) now (les-grows log new pg h h) (past (group_with log pg h)) (past (group_with other pg h')) alike.past_are in
    record {
      first_is = alike.first_is;
      past_are =
          ap (ending_from now) (past-more other new pg h')
          ∙ ending-raised now (enough_of h'.code) (is_by_place h'.code) (told_by new pg) (past (group_with other pg h'))
          ∙ (λ i. map (raised (enough_of (code i)) (is_by_place (code i)) (told_by new pg)) (ending i))
          ∙ sym (ending-raised now (enough_of h.code) (is_by_place h.code) (told_by new pg) (past (group_with log pg h)))
          ∙ ap (ending_from now) (sym (past-more log new pg h));
    }

-- ---- an incremental

cleans-inc : (log : List Entry) (inc : Incremental) (pg : PgId) (h was : History AnyCode) → cleans (group_with (log ++ entry.Inc inc ∷ []) pg h) ≡ cleans (group_with log pg was)
cleans-inc log inc pg h was = ap (map (λ (info : Info). info.last_epoch_clean)) (infos-same log (entry.Inc inc) pg refl)

-- the group goes on: its current interval does, or it ends
pub past-on : (log : List Entry) (inc : Incremental) (pg : PgId) (was h : History AnyCode) → GoesOn was h → past (group_with (log ++ entry.Inc inc ∷ []) pg h) ≡ past (group_with log pg was)
past-on log inc pg was h goes =
    goes.past (cleans (group_with (log ++ entry.Inc inc ∷ []) pg h)) ∙ ap (λ (epochs : List ℕ). past_of epochs was) (cleans-inc log inc pg h was)

past-over : (log : List Entry) (inc : Incremental) (pg : PgId) (was h : History AnyCode) (facts : PrimaryFacts) → Ends inc.epoch facts was h
    → past (group_with (log ++ entry.Inc inc ∷ []) pg h) ≡ past (group_with log pg was) ++ ending_at enough_of is_by_place (cleans (group_with log pg was)) was (inc.epoch - 1) facts ∷ []
past-over log inc pg was h facts over =
    over.past (cleans (group_with (log ++ entry.Inc inc ∷ []) pg h))
    ∙ ap (λ (epochs : List ℕ). past_of epochs was ++ ending_at enough_of is_by_place epochs was (inc.epoch - 1) facts ∷ []) (cleans-inc log inc pg h was)

-- what the maps say of a primary that is up
facts-alike : (incs others : List Incremental) → SayTheSame incs others → (primary : Option ℕ) → ((osd : ℕ) → primary ≡ Some osd → is_up incs osd ≡ true) → primary_facts others primary ≡ primary_facts incs primary
facts-alike incs others maps None up = refl
facts-alike incs others maps (Some osd) up = λ i. record { up_from = from-alike incs others maps osd (up osd refl) i; up_thru = thru-alike incs others maps osd i }

-- a group that begins
begun-alike : (log other : List Entry) (pg : PgId) (first : ℕ) (c c' : AnyCode) (m m' : Membership) → IsAlike (group_with log pg (begun c first m)) (group_with other pg (begun c' first m'))
begun-alike log other pg first c c' m m' = record { first_is = refl; past_are = refl }

begins-with : (incs : List Incremental) (inc : Incremental) (pg : PgId) (h : History AnyCode) → has_group incs pg ≡ false → map_fault incs inc ≡ None → group_history (then_with incs inc) pg ≡ Some h
    → (c : AnyCode) × ((m : Membership) × (begun c inc.epoch m ≡ h))
begins-with incs inc pg h absent fine is =
    let there : has_group (then_with incs inc) pg ≡ true = sym (history_there (then_with incs inc) pg) ∙ ap is_some is in
    let made = map_some (λ made. begun (code_of made.kind) inc.epoch (pool_membership (then_with incs inc) pg made)) (pool (then_with incs inc) pg.pool) h
    (sym (history-begins-made incs inc pg (comes-with_pool incs inc pg absent there) there) ∙ is) in
    (code_of made.0.kind, (pool_membership (then_with incs inc) pg made.0, made.2))

-- The incremental comes to logs whose maps say the same, also behind another epoch.
pub record Comes (log other : List Entry) (inc : Incremental) (after : ℕ) (pg : PgId) : Type 0 where
  pub says : SayTheSame (incs_of log) (incs_of other)
  pub checked : are_checked (incs_of log) ≡ true
  pub checked' : are_checked (incs_of other) ≡ true
  pub fine : map_fault (incs_of log) inc ≡ None
  pub fine' : map_fault (incs_of other) (record inc { after = after }) ≡ None
  pub infos_are : infos_of other ≡ infos_of log
  pub reports_are : reports_of other ≡ reports_of log
  pub alike : (h h' : History AnyCode) → group_history (incs_of log) pg ≡ Some h → group_history (incs_of other) pg ≡ Some h' → IsAlike (group_with log pg h) (group_with other pg h')

module _ (log other : List Entry) (inc : Incremental) (after : ℕ) (pg : PgId) (come : Comes log other inc after pg) (h h' : History AnyCode)
    (is : group_history (then_with (incs_of log) inc) pg ≡ Some h) (is' : group_history (then_with (incs_of other) (record inc { after = after })) pg ≡ Some h') where
  abbrev incs : List Incremental
  incs = incs_of log

  abbrev others : List Incremental
  others = incs_of other

  abbrev behind : Incremental
  behind = record inc { after = after }

  checked : are_checked (then_with incs inc) ≡ true
  checked = checked-more incs inc come.checked come.fine

  checked' : are_checked (then_with others behind) ≡ true
  checked' = checked-more others behind come.checked' come.fine'

  next-says : SayTheSame (then_with incs inc) (then_with others behind)
  next-says = next-same incs others come.says inc after come.checked come.checked' come.fine come.fine'

  abbrev Goal : Type 0
  Goal = IsAlike (group_with (log ++ entry.Inc inc ∷ []) pg h) (group_with (other ++ entry.Inc behind ∷ []) pg h')

  -- both lie in the same place now
  now-same : h'.current ≡ h.current
  now-same = same_Some h'.current h.current (sym (history-current (then_with others behind) pg h' is') ∙ members-alike (then_with incs inc) (then_with others behind) next-says pg ∙ history-current (then_with incs inc) pg h is)

  begins : has_group incs pg ≡ false → Goal
  begins absent =
      let a = begins-with incs inc pg h absent come.fine is in
      let b = begins-with others behind pg h' (has_group-alike incs others come.says pg ∙ absent) come.fine' is' in
      subst (λ (t : History AnyCode). IsAlike (group_with (log ++ entry.Inc inc ∷ []) pg t) (group_with (other ++ entry.Inc behind ∷ []) pg h')) a.1.1
      (subst (λ (t : History AnyCode). IsAlike (group_with (log ++ entry.Inc inc ∷ []) pg (begun a.0 inc.epoch a.1.0)) (group_with (other ++ entry.Inc behind ∷ []) pg t)) b.1.1
      (begun-alike (log ++ entry.Inc inc ∷ []) (other ++ entry.Inc behind ∷ []) pg inc.epoch a.0 b.0 a.1.0 b.1.0))

  module _ (was was' : History AnyCode) (before : group_history incs pg ≡ Some was) (before' : group_history others pg ≡ Some was') where
    alike : IsAlike (group_with log pg was) (group_with other pg was')
    alike = come.alike was was' before before'

    then-same : was'.current ≡ was.current
    then-same = current-is log other pg was was' come.says before before' come.infos_are come.reports_are alike

    code-same : was'.code ≡ was.code
    code-same = code-is log other pg was was' come.says before before' come.infos_are come.reports_are alike

    cleans-same : cleans (group_with other pg was') ≡ cleans (group_with log pg was)
    cleans-same = ap (λ (l : List Info). map (λ info. info.last_epoch_clean) (filter (λ info. is_same_group info.pg pg) l)) come.infos_are

    facts-same : primary_facts others was'.current.acting_primary ≡ primary_facts incs was.current.acting_primary
    facts-same =
        ap (λ (m : Membership). primary_facts others m.acting_primary) then-same
        ∙ facts-alike incs others come.says was.current.acting_primary (λ osd leads. primary-up incs pg was osd before leads)

    abbrev now : ℕ
    now = les (group_with (log ++ entry.Inc inc ∷ []) pg h)

    ending : ending_from now (past (group_with other pg was')) ≡ ending_from now (past (group_with log pg was))
    ending = ending-alike (les (group_with log pg was)) now (les-grows log (entry.Inc inc) pg was h) (past (group_with log pg was)) (past (group_with other pg was')) alike.past_are

    by : Moves incs inc was h → Moves others behind was' h' → Goal
    by (on code goes) (on code' goes') = record {
      first_is = goes'.first ∙ alike.first_is ∙ sym goes.first;
      past_are = ap (ending_from now) (past-on other behind pg was' h' goes') ∙ ending ∙ ap (ending_from now) (sym (past-on log inc pg was h goes));
    }
    by (ends code over) (ends code' over') =
        let last : ending_at enough_of is_by_place (cleans (group_with other pg was')) was' (inc.epoch - 1) (primary_facts others was'.current.acting_primary)
        ≡ ending_at enough_of is_by_place (cleans (group_with log pg was)) was (inc.epoch - 1) (primary_facts incs was.current.acting_primary) =
        λ i. past_from (enough_of (code-same i)) (is_by_place (code-same i)) (cleans-same i) (alike.first_is i) (inc.epoch - 1) (record { members = then-same i; facts = facts-same i }) in
        record {
          first_is = over'.first ∙ sym over.first;
          past_are =
              ap (ending_from now) (past-over other behind pg was' h' (primary_facts others was'.current.acting_primary) over')
              ∙ ending-append now (past (group_with other pg was')) _
              ∙ (λ i. ending i ++ ending_from now (last i ∷ []))
              ∙ sym (ending-append now (past (group_with log pg was)) _)
              ∙ ap (ending_from now) (sym (past-over log inc pg was h (primary_facts incs was.current.acting_primary) over));
        }
    by (on code goes) (ends code' over') = absurd (over'.moved (now-same ∙ goes.current ∙ sym then-same))
    by (ends code over) (on code' goes') = absurd (over.moved (sym now-same ∙ goes'.current ∙ then-same))

  step : (found found' : Option (History AnyCode)) → group_history incs pg ≡ found → group_history others pg ≡ found' → Goal
  step None found' absent is'' = begins (sym (history_there incs pg) ∙ ap is_some absent)
  step (Some was) None before absent =
      absurd (true≢false (sym (ap is_some before) ∙ history_there incs pg ∙ sym (has_group-alike incs others come.says pg) ∙ sym (history_there others pg) ∙ ap is_some absent))
  step (Some was) (Some was') before before' =
      by was was' before before' (moves incs inc pg was h checked before is) (moves others behind pg was' h' checked' before' is')

  pub inc-alike : Goal
  inc-alike = step (group_history incs pg) (group_history others pg) refl refl

-- ---- any entry

module _ (log other : List Entry) (agree : AgreeOn log other) (checked : are_checked (incs_of log) ≡ true) (checked' : are_checked (incs_of other) ≡ true) (new : Entry)
    (fine : (inc : Incremental) → inc_of new ≡ Some inc → map_fault (incs_of log) inc ≡ None) where
  comes : (inc : Incremental) → inc_of new ≡ Some inc → (pg : PgId) → Comes log other inc inc.after pg
  comes inc some pg = record {
    says = agree.maps_are.says;
    checked = checked;
    checked' = checked';
    fine = fine inc some;
    fine' = fault-alike (incs_of log) (incs_of other) agree.maps_are inc checked checked' ∙ fine inc some;
    infos_are = agree.infos_are;
    reports_are = agree.reports_are;
    alike = agree.groups_are pg;
  }

  next-incs : (brings : Option Incremental) → inc_of new ≡ brings → AreAlikeMaps (incs_of (log ++ new ∷ [])) (incs_of (other ++ new ∷ []))
  next-incs None none = subst (λ (l : List Incremental). AreAlikeMaps l (incs_of (other ++ new ∷ []))) (sym (incs-other log new none))
      (subst (λ (l : List Incremental). AreAlikeMaps (incs_of log) l) (sym (incs-other other new none)) agree.maps_are)
  next-incs (Some inc) some =
      subst (λ (l : List Incremental). AreAlikeMaps l (incs_of (other ++ new ∷ []))) (sym (incs-inc log new inc some))
      (subst (λ (l : List Incremental). AreAlikeMaps (then_with (incs_of log) inc) l) (sym (incs-inc other new inc some))
      (next-alike (incs_of log) (incs_of other) agree.maps_are inc checked checked' (fine inc some)))

  told : inc_of new ≡ None → (pg : PgId) (h h' : History AnyCode) → group_history (incs_of (log ++ new ∷ [])) pg ≡ Some h → group_history (incs_of (other ++ new ∷ [])) pg ≡ Some h'
      → IsAlike (group_with (log ++ new ∷ []) pg h) (group_with (other ++ new ∷ []) pg h')
  told none pg h h' is is' =
      let before = ap (λ (l : List Incremental). group_history l pg) (sym (incs-other log new none)) ∙ is in
      let before' = ap (λ (l : List Incremental). group_history l pg) (sym (incs-other other new none)) ∙ is' in
      let alike = agree.groups_are pg h h' before before' in
      told-alike log other new pg h h' (code-is log other pg h h' agree.maps_are.says before before' agree.infos_are agree.reports_are alike) alike

-- a map that comes with a new incremental
next-groups : (log other : List Entry) (agree : AgreeOn log other) (checked : are_checked (incs_of log) ≡ true) (checked' : are_checked (incs_of other) ≡ true) (new : Entry)
    → ((inc : Incremental) → inc_of new ≡ Some inc → map_fault (incs_of log) inc ≡ None) → (pg : PgId) (h h' : History AnyCode)
    → group_history (incs_of (log ++ new ∷ [])) pg ≡ Some h → group_history (incs_of (other ++ new ∷ [])) pg ≡ Some h' → IsAlike (group_with (log ++ new ∷ []) pg h) (group_with (other ++ new ∷ []) pg h')
next-groups log other agree checked checked' (entry.Inc inc) fine pg h h' is is' =
    inc-alike log other inc inc.after pg (comes log other agree checked checked' (entry.Inc inc) fine inc refl pg) h h'
    (ap (λ (l : List Incremental). group_history l pg) (sym (incs-inc log (entry.Inc inc) inc refl)) ∙ is)
    (ap (λ (l : List Incremental). group_history l pg) (sym (incs-inc other (entry.Inc inc) inc refl)) ∙ is')
next-groups log other agree checked checked' (entry.Info info) fine pg h h' is is' = told log other agree checked checked' (entry.Info info) fine refl pg h h' is is'
next-groups log other agree checked checked' (entry.Entries report) fine pg h h' is is' = told log other agree checked checked' (entry.Entries report) fine refl pg h h' is is'
next-groups log other agree checked checked' entry.Close fine pg h h' is is' = told log other agree checked checked' entry.Close fine refl pg h h' is is'

pub more-agree : (log other : List Entry) (new : Entry) → AgreeOn log other → are_checked (incs_of log) ≡ true → are_checked (incs_of other) ≡ true
    → ((inc : Incremental) → inc_of new ≡ Some inc → map_fault (incs_of log) inc ≡ None) → AgreeOn (log ++ new ∷ []) (other ++ new ∷ [])
more-agree log other new agree checked checked' fine = record {
  maps_are = next-incs log other agree checked checked' new fine (inc_of new) refl;
  infos_are = filter_map-append info_of other (new ∷ []) ∙ ap (λ (l : List Info). l ++ infos_of (new ∷ [])) agree.infos_are ∙ sym (filter_map-append info_of log (new ∷ []));
  reports_are = filter_map-append report_of other (new ∷ []) ∙ ap (λ (l : List Report). l ++ reports_of (new ∷ [])) agree.reports_are ∙ sym (filter_map-append report_of log (new ∷ []));
  groups_are = next-groups log other agree checked checked' new fine;
}
