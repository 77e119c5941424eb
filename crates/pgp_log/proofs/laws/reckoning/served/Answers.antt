use Rattle.pgp_log.proofs.Common.{◌≡◌, ◌++◌, ◌⊎◌, List, Some, Entry, Membership, PgId, inl, inr, is_some, ap, sym, subst, ◌∙◌, Contains, View, map_some, same_Some, some_mapped, is_after, group_in, group_with, group_history, incs_of, membership, IsRemembered, WentReadWrite, view_of}
use Rattle.pgp_ids.specs.declared.past.Past.{Past}
use Rattle.pgp_group.proofs.HistoryLemmas.{history-current}
use Rattle.pgp_group.specs.GroupLog.{GroupLog}
use Rattle.pgp_log.proofs.laws.reckoning.served.Goals as goal

-- the membership of a group is that of its last map
current : (log : List Entry) (pg : PgId) (g : GroupLog) → group_in log pg ≡ Some g → membership (incs_of log) pg ≡ Some g.history.current
current log pg g is =
    let h = map_some (group_with log pg) (group_history (incs_of log) pg) g is in
    history-current (incs_of log) pg h.0 h.1 ∙ ap (λ (of : GroupLog). Some of.history.current) h.2

-- what a group's law says, by the views of the group
shown : (log : List Entry) (pg : PgId) (g after : GroupLog) (members : Membership) → g.history.current ≡ members → membership (incs_of log) pg ≡ Some after.history.current → IsRemembered g after
    → (((view_of after).first ≡ (view_of g).first) × (membership (incs_of log) pg ≡ Some members))
    ⊎ ((interval : Past) × Contains (view_of after).intervals interval × WentReadWrite (view_of g).first (view_of g).epoch members interval)
shown log pg g after members lies now (inl still) = inl (still.first, now ∙ ap Some (still.members ∙ lies))
shown log pg g after members lies now (inr one) =
    inr (one.0, one.1, subst (λ (m : Membership). WentReadWrite (view_of g).first (view_of g).epoch m one.0) lies one.2)

pub returns : goal.returns
returns c = record {
  remembered = λ log later pg members view after legal is lies serves then'.
      let g = map_some view_of (group_in log pg) view is in
      let h = map_some view_of (group_in (log ++ later) pg) after then' in
      let checked = c.legal_logs_are_checked_and_short.ensures.checked (log ++ later) legal in
      let same : g.0.history.current ≡ members = same_Some g.0.history.current members (sym (current log pg g.0 g.1) ∙ lies) in
      let kept : IsRemembered g.0 h.0 = c.served.ensures.remembered g.0 h.0 later (is_after log later pg g.0 h.0 checked g.1 h.1) (ap (λ (v : View). v.verdict) g.2 ∙ serves) in
      subst (λ (w : View). ((w.first ≡ view.first) × (membership (incs_of (log ++ later)) pg ≡ Some members)) ⊎ ((interval : Past) × Contains w.intervals interval × WentReadWrite view.first view.epoch members interval)) h.2
      (subst (λ (v : View). (((view_of h.0).first ≡ v.first) × (membership (incs_of (log ++ later)) pg ≡ Some members)) ⊎ ((interval : Past) × Contains (view_of h.0).intervals interval × WentReadWrite v.first v.epoch members interval)) g.2
      (shown (log ++ later) pg g.0 h.0 members same (current (log ++ later) pg h.0 h.1) kept));
  each = λ log later pg members view after interval legal is lies serves then' in' same.
      let g = map_some view_of (group_in log pg) view is in
      let h = map_some view_of (group_in (log ++ later) pg) after then' in
      let checked = c.legal_logs_are_checked_and_short.ensures.checked (log ++ later) legal in
      let current-is : g.0.history.current ≡ members = same_Some g.0.history.current members (sym (current log pg g.0 g.1) ∙ lies) in
      subst (λ (v : View). WentReadWrite v.first v.epoch members interval) g.2
      (subst (λ (m : Membership). WentReadWrite (view_of g.0).first (view_of g.0).epoch m interval) current-is
      (c.served.ensures.each g.0 h.0 later interval (is_after log later pg g.0 h.0 checked g.1 h.1) (ap (λ (v : View). v.verdict) g.2 ∙ serves)
      (subst (λ (w : View). Contains w.intervals interval) (sym h.2) in') (same ∙ ap (λ (v : View). v.first) (sym g.2))));
  there = λ log later pg view legal is.
      let checked = c.legal_logs_are_checked_and_short.ensures.checked (log ++ later) legal in
      some_mapped view_of (group_in (log ++ later) pg)
      ∙ c.served.ensures.there pg log later checked (sym (some_mapped view_of (group_in log pg)) ∙ ap is_some is);
}
