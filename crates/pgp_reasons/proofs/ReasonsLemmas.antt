-- What is reckoned from a view and the log is what the group's log says.
use Rattle.std.proofs.Common.{◌≡◌, ℕ, List, [], Option, Some, None, Bool, true, false, not, length, ◌==◌, option_map, option_and_then, refl, ap, sym, ◌∙◌, subst, inl, inr}
use Rattle.std.specs.List.{Contains}
use Rattle.std.proofs.lemmas.Bool.{cases_Bool, true≢false}
use Rattle.std.proofs.lemmas.Option.{same_Some}
use Rattle.pgp_ids.specs.declared.entry.Entry.{Entry}
use Rattle.pgp_ids.specs.declared.member.Member.{Member}
use Rattle.pgp_ids.specs.declared.pg_id.PgId.{PgId}
use Rattle.pgp_ids.specs.declared.pool.PoolSpec.{PoolSpec}
use Rattle.pgp_ids.specs.declared.report.Info.{Info}
use Rattle.pgp_ids.specs.declared.view.View.{View}
use Rattle.pgp_code.specs.AnyCode.{enough_of, is_by_place}
use Rattle.pgp_code.specs.Pool.{code_of}
use Rattle.pgp_code.specs.declared.any.AnyCode.{AnyCode}
use Rattle.pgp_lists.proofs.Members.{filter-contains, find-some}
use Rattle.pgp_map.specs.Devices.{lost_at}
use Rattle.pgp_map.specs.Held.{held_lost_at}
use Rattle.pgp_map.specs.HeldLaws.{held_lost_at-is}
use Rattle.pgp_map.specs.MapOf.{IsMapOf}
use Rattle.pgp_map.specs.Pools.{pool, has_group}
use Rattle.pgp_map.specs.declared.map.OsdMap.{OsdMap}
use Rattle.pgp_prior.specs.declared.prior_set.Prior.{Prior}
use Rattle.pgp_prior.proofs.PriorLemmas.{prior-by_lists}
use Rattle.pgp_sets.specs.Status.{held_status, status}
use Rattle.pgp_sets.specs.declared.status.Status.{Status}
use Rattle.pgp_sets.specs.StatusLaws.{held_status-is}
use Rattle.pgp_info.specs.Best.{candidates, is_unbeaten}
use Rattle.pgp_group.specs.Entries.{incs_of}
use Rattle.pgp_group.specs.GroupHistory.{history_of}
use Rattle.pgp_group.specs.GroupLog.{GroupLog, group_in, group_with, incs, infos}
use Rattle.pgp_group.specs.Heard.{counted_infos, heard, les}
use Rattle.pgp_group.specs.Peering.{best, info_from, leader, past, prior}
use Rattle.pgp_group.specs.Prefers.{prefers}
use Rattle.pgp_group.specs.Present.{IsPresent}
use Rattle.pgp_group.specs.View.{view_of}
use Rattle.pgp_group.proofs.HeardLemmas.{HasDistinctMembers-last_of}
use Rattle.pgp_group.proofs.PeerLemmas.{info_of-is}
use Rattle.pgp_reasons.specs.Smallest.{AreWays}
use Rattle.pgp_reasons.specs.Ways.{is_relieved}
use Rattle.pgp_reasons.specs.declared.ways.Ways.{Ways}
use Rattle.pgp_reasons.specs.Reasons.{no_ways, AreWaysOf, IsViewed}
use Rattle.pgp_reasons.specs.Reported.{infos_in}

-- ---- the group of a view

-- the view is that of the group, by this log, whose map is the last one, and this code
pub record IsAskedOf (log : List Entry) (code : AnyCode) (map : OsdMap) (pg : PgId) (view : View) (g : GroupLog) : Type 0 where
  pub log_is : g.log ≡ log
  pub pg_is : g.pg ≡ pg
  pub code_is : g.history.code ≡ code
  pub map_is : IsMapOf (incs g) map
  pub view_is : view ≡ view_of g

group-with : (log : List Entry) (pg : PgId) (g : GroupLog) (spec : PoolSpec) → pool (incs_of log) pg.pool ≡ Some spec → group_in log pg ≡ Some g
    → group_with log pg (history_of (incs_of log) pg spec) ≡ g
group-with log pg g spec found is = elim (cases_Bool (has_group (incs_of log) pg)) [
  | inl there ↦ same_Some (group_with log pg (history_of (incs_of log) pg spec)) g (rw (there, found) at is)
  | inr absent ↦ let none : None ≡ Some g = rw absent at is in cc
]

pub viewed-asked : (log : List Entry) (map : OsdMap) (pg : PgId) (view : View) (g : GroupLog) (spec : PoolSpec) → pool (incs_of log) pg.pool ≡ Some spec
    → IsViewed log map pg view g → IsAskedOf log (code_of spec.kind) map pg view g
viewed-asked log map pg view g spec found is =
    let with' : group_with log pg (history_of (incs_of log) pg spec) ≡ g = group-with log pg g spec found is.group_is in
    let seen : view_of g ≡ view = same_Some (view_of g) view (sym (ap (option_map view_of) is.group_is) ∙ is.view_is) in
    record {
      log_is = ap (λ (h : GroupLog). h.log) (sym with');
      pg_is = ap (λ (h : GroupLog). h.pg) (sym with');
      code_is = ap (λ (h : GroupLog). h.history.code) (sym with');
      map_is = subst (λ (h : GroupLog). IsMapOf (incs h) map) with' is.map_is;
      view_is = sym seen;
    }

pub unviewed : (log : List Entry) (map : OsdMap) (pg : PgId) (view : View) (g : GroupLog) → pool (incs_of log) pg.pool ≡ None → IsViewed log map pg view g → ⊥
unviewed log map pg view g none is = elim (cases_Bool (has_group (incs_of log) pg)) [
  | inl there ↦ let no : None ≡ Some g = rw (there, none) at is.group_is in cc
  | inr absent ↦ let no : None ≡ Some g = rw absent at is.group_is in cc
]

-- ---- what is asked of it

module _ {log : List Entry} {code : AnyCode} {map : OsdMap} {pg : PgId} {view : View} {g : GroupLog} (is : IsAskedOf log code map pg view g) where
  pub asked-present : IsPresent g map view.first
  asked-present = record { map_is = is.map_is; first_is = ap (λ (v : View). v.first) is.view_is }

  pub asked-infos : infos_in pg log ≡ infos g
  asked-infos = λ i. infos_in (sym is.pg_is i) (sym is.log_is i)

-- what is reckoned from a code, from what a map says of devices and from a view is what the group's log says
pub asked-is {ℓ} : {X : Type ℓ} (f : AnyCode → (ℕ → ℕ → Status) → (ℕ → ℕ) → View → X) (g : GroupLog) (code : AnyCode) (map : OsdMap) (view : View)
    → g.history.code ≡ code → IsMapOf (incs g) map → view ≡ view_of g
    → f code (held_status map) (held_lost_at map) view ≡ f g.history.code (status (incs g)) (lost_at (incs g)) (view_of g)
asked-is f g code map view of_code of_map of_view = λ i.
    f (sym of_code i) (λ osd first. held_status-is (incs g) map of_map osd first i) (λ osd. held_lost_at-is (incs g) map of_map osd i) (of_view i)

-- ---- the best info

best-heard : (g : GroupLog) (info : Info) → best g ≡ Some info → Contains (heard g) info
best-heard g info is =
    let better : Info → Info → Bool = prefers g.history.code (leader g) in
    let found = find-some (is_unbeaten better (candidates (heard g))) (candidates (heard g)) info is in
    (filter-contains _ (heard g) info found.0).0

best-of : (g : GroupLog) (found : Option Info) → best g ≡ found → option_and_then (info_from (heard g)) (option_map (λ info. info.member) found) ≡ found
best-of g None is = refl
best-of g (Some info) is = info_of-is (heard g) (HasDistinctMembers-last_of (counted_infos g)) info (best-heard g info is)

-- the info that was found is the best
pub best-found : (g : GroupLog) (list : List Info) (member : Option Member) (found : Option Info) → member ≡ option_map (λ info. info.member) (best g) → list ≡ heard g
    → found ≡ option_and_then (info_from list) member → found ≡ best g
best-found g list member found of_best of_heard is =
    is ∙ (λ i. option_and_then (info_from (of_heard i)) (of_best i)) ∙ best-of g (best g) refl

-- ---- what brings the group back

down-is : (g : GroupLog) (view : View) (none : Bool) → view ≡ view_of g → (length view.blocked_by == 0) ≡ none → (prior g).down ≡ not none
down-is g view none of_view is =
    sym (ap (λ (found : Prior). found.down)
    (prior-by_lists (enough_of g.history.code) (is_by_place g.history.code) (status (incs g)) (les g) (past g) g.history.current
    (prior g).probe (prior g).blocked_by (length (prior g).blocked_by == 0) refl refl refl))
    ∙ ap not (ap (λ (v : View). length v.blocked_by == 0) (sym of_view) ∙ is)

-- a group that is down
pub ways-asked : (g : GroupLog) (code : AnyCode) (map : OsdMap) (view : View) (ways : Ways) → g.history.code ≡ code → IsMapOf (incs g) map → view ≡ view_of g → (length view.blocked_by == 0) ≡ false
    → AreWays (λ osds. is_relieved (enough_of code) (is_by_place code) (held_status map) view.les view.intervals osds []) view.blocked_by ways → AreWaysOf g ways
ways-asked g code map view ways of_code of_map of_view some are =
    record {
      down = λ _. subst (λ (P : Type 0). P)
          (asked-is (λ c s lost v. AreWays (λ osds. is_relieved (enough_of c) (is_by_place c) s v.les v.intervals osds []) v.blocked_by ways) g code map view of_code of_map of_view)
          are;
      up = λ up. absurd (true≢false (sym (down-is g view false of_view some) ∙ up));
    }

-- one that isn't
pub no-ways : (g : GroupLog) (view : View) (ways : Ways) → view ≡ view_of g → (length view.blocked_by == 0) ≡ true → ways ≡ no_ways → AreWaysOf g ways
no-ways g view ways of_view none is =
    record { down = λ down. absurd (true≢false (sym down ∙ down-is g view true of_view none)); up = λ _. is }
