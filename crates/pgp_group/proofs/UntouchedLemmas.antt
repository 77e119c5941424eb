-- An entry that doesn't touch a group leaves its view as it was, except for count and epoch.
use Rattle.pgp_group.proofs.Common.{◌≡◌, ℕ, List, [], ◌∷◌, ◌++◌, Option, Some, None, true, false, length, map, refl, ap, sym, ◌∙◌, arith, filter, list_any, option_map, or_parts, enough_of, is_by_place, AnyCode, Entry, EpochState, PrimaryFacts, Incremental, PgId, PoolSpec, Info, Report, History, past_intervals, are_checked, device, epoch, map_fault, then_with, pool, has_group, is_same_group, pool_membership, membership, inc_of, incs_of, infos_of, reports_of, primary_facts, grown_with, passed_over, group_history, group_with, names, has_to_do_with, changed_devices, is_touched, view_at, view_of, scratch, nat_tests, front-checked, last-checked, current_first-goes_on, past_intervals-goes_on}
use Rattle.pgp_ids.specs.declared.entry.Entry.TheVariants as entry
use Rattle.pgp_group.proofs.GroupLemmas.{infos-other, infos-same, reports-other, reports-same}
use Rattle.pgp_group.proofs.GrowthLemmas.{history-grows, epochs_ascend}
use Rattle.pgp_group.proofs.HistoryLemmas.{history_if, history-current}
use Rattle.pgp_group.proofs.Lists.{nothing_new, one_new}
use Rattle.pgp_group.proofs.SameViewLemmas.{view-same}
use Rattle.pgp_group.proofs.UntoldLemmas.{DevicesStay, IsLeft, leader-same, members-same, pool-same, same_device, unplaced, ups-stay}
use Rattle.pgp_group.proofs.ViewLemmas.{history_there}

-- the view with the entry is that of the log before, except for count and epoch
abbrev pub Stays : List Entry → Entry → PgId → Type 0
Stays log new pg = scratch (log ++ new ∷ []) pg ≡ option_map (view_at (length (log ++ new ∷ [])) (epoch (incs_of (log ++ new ∷ [])))) (scratch log pg)

-- ---- an entry that brings no map, and nothing of the group

quiet : (log : List Entry) (new : Entry) (pg : PgId) → inc_of new ≡ None → filter (λ (i : Info). is_same_group i.pg pg) (infos_of (log ++ new ∷ [])) ≡ filter (λ (i : Info). is_same_group i.pg pg) (infos_of log)
    → filter (λ (r : Report). is_same_group r.pg pg) (reports_of (log ++ new ∷ [])) ≡ filter (λ (r : Report). is_same_group r.pg pg) (reports_of log) → Stays log new pg
quiet log new pg no_map told reported =
    ap (λ (l : List Incremental). option_map view_of (option_map (group_with (log ++ new ∷ []) pg) (group_history l pg))) incs_are
    ∙ by_history (group_history (incs_of log) pg)
  where
    incs_are : incs_of (log ++ new ∷ []) ≡ incs_of log
    incs_are = nothing_new inc_of log new no_map

    by_history : (found : Option (History AnyCode)) → option_map view_of (option_map (group_with (log ++ new ∷ []) pg) found) ≡ option_map (view_at (length (log ++ new ∷ [])) (epoch (incs_of (log ++ new ∷ [])))) (option_map view_of (option_map (group_with log pg) found))
    by_history None = refl
    by_history (Some h) = ap Some (view-same log (log ++ new ∷ []) pg h h.lived (record {
      first = refl;
      past = ap (λ (l : List Info). past_intervals enough_of is_by_place (map (λ info. info.last_epoch_clean) l) h) told;
      infos = told;
      reports = reported;
      named = λ osd named. ap (λ (l : List Incremental). device l osd) incs_are;
      leads = λ osd leads. ap (λ (l : List Incremental). device l osd) incs_are;
    }))

-- ---- an incremental that doesn't touch the group

-- no device that the incremental changes has to do with the group
pub record IsApart (log : List Entry) (inc : Incremental) (pg : PgId) : Type 0 where
  pub left : IsLeft (incs_of log) inc pg
  pub devices : list_any (has_to_do_with log pg) (changed_devices inc) ≡ false

pub apart : (log : List Entry) (inc : Incremental) (pg : PgId) → is_touched log (entry.Inc inc) pg ≡ false → IsApart log inc pg
apart log inc pg untouched = grind (arith, nat_tests, or_parts, unplaced)

-- the devices on which the group lies, or may lie by pg_temp, stay as they were
pub devices-stay : (log : List Entry) (inc : Incremental) (pg : PgId) (made : PoolSpec) → IsApart log inc pg → pool (incs_of log) pg.pool ≡ Some made → DevicesStay (incs_of log) inc pg made
devices-stay log inc pg made is there = grind (arith, nat_tests, same_device)

-- devices of which the group speaks
named-stay : (log : List Entry) (inc : Incremental) (pg : PgId) (h : History AnyCode) (osd : ℕ) → IsApart log inc pg → group_history (incs_of log) pg ≡ Some h → names osd (group_with log pg h) ≡ true → device (then_with (incs_of log) inc) osd ≡ device (incs_of log) osd
named-stay log inc pg h osd is there named = grind (arith, nat_tests, same_device)

-- the current interval goes on
lies-still : (log : List Entry) (inc : Incremental) (pg : PgId) (h : History AnyCode) (made : PoolSpec) → map_fault (incs_of log) inc ≡ None → IsApart log inc pg
    → group_history (incs_of log) pg ≡ Some h → pool (incs_of log) pg.pool ≡ Some made → membership (then_with (incs_of log) inc) pg ≡ Some h.current
lies-still log inc pg h made fine is there found =
    let stay = ups-stay (incs_of log) inc pg made (devices-stay log inc pg made is found) in
    ap (option_map (pool_membership (then_with (incs_of log) inc) pg)) (pool-same (incs_of log) inc pg.pool is.left.pool ∙ found)
    ∙ ap Some (members-same (incs_of log) inc pg made fine is.left found stay)
    ∙ sym (ap (option_map (pool_membership (incs_of log) pg)) found) ∙ history-current (incs_of log) pg h there

history-goes_on : (log : List Entry) (inc : Incremental) (pg : PgId) (h : History AnyCode) (made : PoolSpec) → are_checked (then_with (incs_of log) inc) ≡ true → IsApart log inc pg
    → group_history (incs_of log) pg ≡ Some h → pool (incs_of log) pg.pool ≡ Some made
    → group_history (then_with (incs_of log) inc) pg ≡ Some (grown_with (incs_of log) inc h h.current)
history-goes_on log inc pg h made checked is there found =
    history-grows (incs_of log) inc pg h (epochs_ascend (incs_of log) (front-checked (incs_of log) (inc ∷ []) checked)) (last-checked (incs_of log) inc checked) there
    ∙ ap (option_map (grown_with (incs_of log) inc h)) (lies-still log inc pg h made (last-checked (incs_of log) inc checked) is there found)

view-stays : (log : List Entry) (inc : Incremental) (pg : PgId) (h : History AnyCode) → are_checked (then_with (incs_of log) inc) ≡ true → IsApart log inc pg
    → group_history (incs_of log) pg ≡ Some h → Stays log (entry.Inc inc) pg
view-stays log inc pg h checked is there =
    let made = history_if (incs_of log) pg (pool (incs_of log) pg.pool) h (has_group (incs_of log) pg) there in
    let facts : PrimaryFacts = primary_facts (incs_of log) h.current.acting_primary in
    let passed : ℕ = passed_over (incs_of log) inc in
    let lived : List EpochState = (grown_with (incs_of log) inc h h.current).lived in
    let grows : incs_of (log ++ entry.Inc inc ∷ []) ≡ then_with (incs_of log) inc = one_new inc_of log (entry.Inc inc) inc refl in
    let after : group_history (incs_of (log ++ entry.Inc inc ∷ [])) pg ≡ Some (grown_with (incs_of log) inc h h.current) = grind (arith, nat_tests, history-goes_on) in
    let leads : (osd : ℕ) → h.current.acting_primary ≡ Some osd → device (incs_of (log ++ entry.Inc inc ∷ [])) osd ≡ device (incs_of log) osd = λ osd first.
    let first' : (pool_membership (incs_of log) pg made.0).acting_primary ≡ Some osd = ap (λ (t : History AnyCode). t.current.acting_primary) made.1.1 ∙ first in
    ap (λ (l : List Incremental). device l osd) grows ∙ leader-same (incs_of log) inc pg made.0 osd (devices-stay log inc pg made.0 is made.1.0) first' in
    ap (λ (o : Option (History AnyCode)). option_map view_of (option_map (group_with (log ++ entry.Inc inc ∷ []) pg) o)) after
    ∙ ap Some (view-same log (log ++ entry.Inc inc ∷ []) pg h lived (record {
      first = current_first-goes_on h passed facts;
      past = grind (arith, infos-same log (entry.Inc inc) pg refl, past_intervals-goes_on);
      infos = infos-same log (entry.Inc inc) pg refl;
      reports = reports-same log (entry.Inc inc) pg refl;
      named = λ osd named. ap (λ (l : List Incremental). device l osd) grows ∙ named-stay log inc pg h osd is there named;
      leads = leads;
    }))
    ∙ ap (λ (o : Option (History AnyCode)). option_map (view_at (length (log ++ entry.Inc inc ∷ [])) (epoch (incs_of (log ++ entry.Inc inc ∷ [])))) (option_map view_of (option_map (group_with log pg) o))) (sym there)

-- a group that isn't there doesn't come
none-stays : (log : List Entry) (inc : Incremental) (pg : PgId) → IsApart log inc pg → group_history (incs_of log) pg ≡ None → Stays log (entry.Inc inc) pg
none-stays log inc pg is none = grind (arith, nat_tests, one_new, pool-same, history_there)

inc-stays : (log : List Entry) (inc : Incremental) (pg : PgId) → are_checked (then_with (incs_of log) inc) ≡ true → is_touched log (entry.Inc inc) pg ≡ false → Stays log (entry.Inc inc) pg
inc-stays log inc pg checked untouched = grind (arith, nat_tests, none-stays, apart, view-stays)

-- ---- any entry

pub untouched-stays : (log : List Entry) (new : Entry) (pg : PgId) → are_checked (incs_of (log ++ new ∷ [])) ≡ true → is_touched log new pg ≡ false → Stays log new pg
untouched-stays log (entry.Inc inc) pg checked untouched =
    inc-stays log inc pg (sym (ap are_checked (one_new inc_of log (entry.Inc inc) inc refl)) ∙ checked) untouched
untouched-stays log (entry.Info info) pg checked untouched = search (quiet, infos-other, reports-same)
untouched-stays log (entry.Entries report) pg checked untouched = search (quiet, infos-same, reports-other)
untouched-stays log entry.Close pg checked untouched = search (quiet, infos-same, reports-same)
