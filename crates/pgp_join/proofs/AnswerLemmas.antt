-- Logs that are alike are answered alike.
use Rattle.pgp_group.proofs.Common.{◌≡◌, ℕ, List, ◌++◌, Some, is_some, true, ap, sym, ◌∙◌, subst, option_and_then, option_map, map_some, same_Some, some_is, refl, inl, inr, length, arith, AnyCode, Entry, PgId, History, are_checked, incs_of, group_history, group_in, group_with, les, past, scratch, view_of}
use Rattle.pgp_ids.specs.declared.view.View.{View}
use Rattle.pgp_lines.specs.declared.command.format.Format.TheVariants.{Three}
use Rattle.pgp_core.specs.Added.{log_of_lines}
use Rattle.pgp_core.specs.Lines.{lines_of}
use Rattle.pgp_group.proofs.ViewLemmas.{history_there, scratch_there}
use Rattle.pgp_log.proofs.LogLemmas.{legal-checked}
use Rattle.pgp_log.specs.Locate.{group_in_pool, place_of_object, place_with}
use Rattle.pgp_log.specs.Log.{is_legal}
use Rattle.pgp_join.specs.Alike.{AgreeOn, AreAlike, AreAlikeViews, IsAlike, IsAlikeView, ending_from}
use Rattle.pgp_join.specs.Bound.{IsJoinedLog}
use Rattle.pgp_join.specs.Text.{MayStandFor}
use Rattle.pgp_join.proofs.FollowLemmas.{alike-go, follows, follows-other}
use Rattle.pgp_join.proofs.MapLemmas.{has_group-alike}
use Rattle.pgp_join.proofs.ViewLemmas.{les-is, members-alike, view-is}

-- ---- views

-- the history behind a view
seen : (log : List Entry) (pg : PgId) (view : View) → scratch log pg ≡ Some view → (h : History AnyCode) × ((group_history (incs_of log) pg ≡ Some h) × (view_of (group_with log pg h) ≡ view))
seen log pg view is =
    let g = map_some view_of (group_in log pg) view is in
    let h = map_some (group_with log pg) (group_history (incs_of log) pg) g.0 g.1 in
    (h.0, (h.1, ap view_of h.2 ∙ g.2))

alike-views : (log other : List Entry) (pg : PgId) → AgreeOn log other → AreAlikeViews (scratch log pg) (scratch other pg)
alike-views log other pg agree = record {
  there = scratch_there other pg ∙ has_group-alike (incs_of log) (incs_of other) agree.maps_are.says pg ∙ sym (scratch_there log pg);
  alike = λ a b is is'.
      let x = seen log pg a is in
      let y = seen other pg b is' in
      subst (λ (v : View). IsAlikeView v b) x.1.1
      (subst (λ (v : View). IsAlikeView (view_of (group_with log pg x.0)) v) y.1.1
      (view-is log other pg x.0 y.0 agree.maps_are.says x.1.0 y.1.0 agree.infos_are agree.reports_are (agree.groups_are pg x.0 y.0 x.1.0 y.1.0) agree.maps_are.epoch_is));
}

pub views-after : (log other more : List Entry) (pg : PgId) → AreAlike log other → are_checked (incs_of (log ++ more)) ≡ true → AreAlikeViews (scratch (log ++ more) pg) (scratch (other ++ more) pg)
views-after log other more pg are checked = alike-views (log ++ more) (other ++ more) pg (follows more log other (alike-go log other are) checked).agree

pub views-taken : (log other more : List Entry) (pg : PgId) → AreAlike log other → is_legal (other ++ more) ≡ true → AreAlikeViews (scratch (log ++ more) pg) (scratch (other ++ more) pg)
views-taken log other more pg are legal =
    alike-views (log ++ more) (other ++ more) pg (follows-other more log other (alike-go log other are) (legal-checked (other ++ more) legal)).agree

-- ---- objects

pub places-alike : (log other : List Entry) (id : ℕ) (name : List ℕ) → AreAlike log other → place_of_object (incs_of other) id name ≡ place_of_object (incs_of log) id name
places-alike log other id name are = λ i.
    option_and_then (λ pg. option_map (place_with pg) (members-alike (incs_of log) (incs_of other) are.agree.maps_are.says pg i))
    (option_map (group_in_pool id name) (are.agree.maps_are.says.pool_is id i))

-- ---- a log is alike itself, and what is alike one that is alike

pub itself : (log : List Entry) → is_legal log ≡ true → AreAlike log log
itself log legal = record {
  legal = legal;
  other_legal = legal;
  closed_is = refl;
  no_longer = omega arith;
  agree = record {
    maps_are = record {
      epoch_is = refl;
      says = record { devices_are = λ osd. refl; weight_is = λ osd. refl; pool_is = λ id. refl; temp_is = λ pg. refl; tree_is = refl; count_is = refl };
    };
    infos_are = refl;
    reports_are = refl;
    groups_are = λ pg h now is is'.
        subst (λ (t : History AnyCode). IsAlike (group_with log pg h) (group_with log pg t)) (same_Some h now (sym is ∙ is')) (record { first_is = refl; past_are = refl });
  };
}

pub joined-itself : (log : List Entry) → is_legal log ≡ true → IsJoinedLog log log
joined-itself log legal = record { alike = itself log legal; few = inl refl }

chain-groups : (a b c : List Entry) (ab : AgreeOn a b) (bc : AgreeOn b c) (pg : PgId) (h now : History AnyCode) → group_history (incs_of a) pg ≡ Some h → group_history (incs_of c) pg ≡ Some now → IsAlike (group_with a pg h) (group_with c pg now)
chain-groups a b c ab bc pg h now is is' =
    let there : is_some (group_history (incs_of b) pg) ≡ true =
    history_there (incs_of b) pg ∙ has_group-alike (incs_of a) (incs_of b) ab.maps_are.says pg ∙ sym (history_there (incs_of a) pg) ∙ ap is_some is in
    let mid = some_is (group_history (incs_of b) pg) there in
    let first = ab.groups_are pg h mid.0 is mid.1 in
    let second = bc.groups_are pg mid.0 now mid.1 is' in
    let same : les (group_with b pg mid.0) ≡ les (group_with a pg h) = les-is a b pg h mid.0 ab.maps_are.says is mid.1 ab.infos_are ab.reports_are first in
    record {
      first_is = second.first_is ∙ first.first_is;
      past_are = subst (λ (e : ℕ). ending_from e (past (group_with c pg now)) ≡ ending_from e (past (group_with b pg mid.0))) same second.past_are ∙ first.past_are;
    }

pub chain : (a b c : List Entry) → AreAlike a b → AreAlike b c → AreAlike a c
chain a b c ab bc = record {
  legal = ab.legal;
  other_legal = bc.other_legal;
  closed_is = bc.closed_is ∙ ab.closed_is;
  no_longer = omega (arith, ab.no_longer, bc.no_longer);
  agree = record {
    maps_are = record {
      epoch_is = bc.agree.maps_are.epoch_is ∙ ab.agree.maps_are.epoch_is;
      says = record {
        devices_are = λ osd. bc.agree.maps_are.says.devices_are osd ∙ ab.agree.maps_are.says.devices_are osd;
        weight_is = λ osd. bc.agree.maps_are.says.weight_is osd ∙ ab.agree.maps_are.says.weight_is osd;
        pool_is = λ id. bc.agree.maps_are.says.pool_is id ∙ ab.agree.maps_are.says.pool_is id;
        temp_is = λ pg. bc.agree.maps_are.says.temp_is pg ∙ ab.agree.maps_are.says.temp_is pg;
        tree_is = bc.agree.maps_are.says.tree_is ∙ ab.agree.maps_are.says.tree_is;
        count_is = bc.agree.maps_are.says.count_is ∙ ab.agree.maps_are.says.count_is;
      };
    };
    infos_are = bc.agree.infos_are ∙ ab.agree.infos_are;
    reports_are = bc.agree.reports_are ∙ ab.agree.reports_are;
    groups_are = chain-groups a b c ab.agree bc.agree;
  };
}

-- ---- joined logs

-- lines for the entries of a joined log, with as many entries and incrementals
pub joined-lines : (log joined : List Entry) (text : List ℕ) (entries : ℕ) → IsJoinedLog log joined → entries ≡ length joined → MayStandFor joined text entries (length (incs_of joined))
    → IsJoinedLog log (log_of_lines Three (lines_of text))
joined-lines log joined text entries are as_long stands = record {
  alike = chain log joined (log_of_lines Three (lines_of text)) are.alike stands.alike;
  few = elim are.few [
    | inl same ↦ inl (sym stands.entries_are ∙ as_long ∙ same)
    | inr few ↦ inr (omega (arith, few, stands.few))
  ];
}
