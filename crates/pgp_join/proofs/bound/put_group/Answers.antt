use Rattle.pgp_group.proofs.Common.{◌≡◌, [], ◌||◌, OnOk, Some, None, ap, nat_eq, or-false, option_map_or, scratch, subst, sym, ◌∙◌}
use Rattle.std.specs.Set.{IsUnion, is_member}
use Rattle.pgp_join.specs.Bound.{first_epochs}
use Rattle.pgp_join.proofs.bound.put_group.Goals as goal

pub returns-in-Some-clause-put : goal.returns-in-Some-clause-put
returns-in-Some-clause-put c =
    let is : scratch c.args.log.now c.args.pg ≡ Some c.in-Some.view = sym c.in_ok-view.ensures.view ∙ c.in-Some.is in
    subst (λ view. OnOk c.put_first_epochs.result (IsUnion nat_eq c.args.epochs.now.keys (option_map_or first_epochs view []) c.put_first_epochs.new.epochs.keys)) (sym is)
    c.put_first_epochs.ensures

pub returns-in-None-clause-put : goal.returns-in-None-clause-put
returns-in-None-clause-put c = λ q.
    let is : scratch c.args.log.now c.args.pg ≡ None = sym c.in_ok-view.ensures.view ∙ c.in-None.is in
    let had = is_member nat_eq c.args.epochs.now.keys q in
    sym (or-false had) ∙ ap (λ view. had || is_member nat_eq (option_map_or first_epochs view []) q) (sym is)
