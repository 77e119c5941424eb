-- What two views of a group, and the groups that a map has, tell of whether logs are alike.
use Rattle.pgp_group.proofs.Common.{◌≡◌, List, Bool, true, Option, Some, None, is_some, refl, ap, sym, ◌∙◌, subst, option_map, same_Some, true≢false, AnyCode, Entry, PgId, History, has_group, incs_of, group_history, group_with, view_of}
use Rattle.std.proofs.Common.{Decides}
use Rattle.pgp_ids.specs.declared.view.View.{View}
use Rattle.pgp_group.proofs.ViewLemmas.{history_there}
use Rattle.pgp_group.specs.View.{scratch}
use Rattle.pgp_join.specs.Alike.{IsGroupAlike, ending_from}

-- what both views have to say
abbrev pub ViewsAgree : View → View → Type 0
ViewsAgree view other = (other.first ≡ view.first) × (ending_from view.les other.intervals ≡ ending_from view.les view.intervals)

there : (log : List Entry) (pg : PgId) (view : View) (h : Option (History AnyCode)) → option_map view_of (option_map (group_with log pg) h) ≡ Some view
    → (history : History AnyCode) × (h ≡ Some history)
there log pg view None is = absurd (true≢false (sym (ap is_some is)))
there log pg view (Some h) is = (h, refl)

viewed : (log : List Entry) (pg : PgId) (view : View) (h : History AnyCode) → scratch log pg ≡ Some view → group_history (incs_of log) pg ≡ Some h
    → view ≡ view_of (group_with log pg h)
viewed log pg view h is has = same_Some view (view_of (group_with log pg h)) (sym is ∙ ap (λ m. option_map view_of (option_map (group_with log pg) m)) has)

pub group_Decides : (log other : List Entry) (pg : PgId) (view other_view : View) (r : Bool) → scratch log pg ≡ Some view → scratch other pg ≡ Some other_view
    → Decides r (ViewsAgree view other_view) → Decides r (IsGroupAlike log other pg)
group_Decides log other pg view other_view r is is' agree = (
  λ passed h now has has'.
      let g = view_of (group_with log pg h) in
      let o = view_of (group_with other pg now) in
      let agrees : ViewsAgree g o = subst (λ v. ViewsAgree v o) (viewed log pg view h is has) (subst (λ w. ViewsAgree view w) (viewed other pg other_view now is' has') (agree.0 passed)) in
      record { first_is = agrees.0; past_are = agrees.1 },
  λ alike.
      let a = there log pg view (group_history (incs_of log) pg) is in
      let b = there other pg other_view (group_history (incs_of other) pg) is' in
      let they = alike a.0 b.0 a.1 b.1 in
      let agrees : ViewsAgree (view_of (group_with log pg a.0)) (view_of (group_with other pg b.0)) = (they.first_is, they.past_are) in
      agree.1 (subst (λ w. ViewsAgree view w) (sym (viewed other pg other_view b.0 is' b.1))
      (subst (λ v. ViewsAgree v (view_of (group_with other pg b.0))) (sym (viewed log pg view a.0 is a.1)) agrees)),
)

-- a group that the log has is one of its map's
pub has-group : (log : List Entry) (pg : PgId) (h : History AnyCode) → group_history (incs_of log) pg ≡ Some h → has_group (incs_of log) pg ≡ true
has-group log pg h is = sym (history_there (incs_of log) pg) ∙ ap is_some is
