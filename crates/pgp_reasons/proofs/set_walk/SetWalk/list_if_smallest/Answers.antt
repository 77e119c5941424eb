use Rattle.std.proofs.Common.{true, [], ◌∷◌, ◌++◌, length, inl, refl, sym, ap, ◌∙◌, arith}
use Rattle.std.proofs.lemmas.List.{length-append}
use Rattle.pgp_reasons.proofs.WalkLemmas.{first-all, first-none, first-stopped}
use Rattle.pgp_reasons.proofs.set_walk.SetWalk.list_if_smallest.Goals as goal

pub returns-in-None-clause-found : goal.returns-in-None-clause-found
returns-in-None-clause-found g c = rw c.in-None.ensures.kept (first-stopped c.args.self.now.sets _ _ (first-all true c.args.self.now.sets))

pub returns-then-len-eq-MOST_SETS-clause-found : goal.returns-then-len-eq-MOST_SETS-clause-found
returns-then-len-eq-MOST_SETS-clause-found g c = rw c.in-Some-true.ensures.kept (first-stopped c.args.self.now.sets _ _ (first-all true c.args.self.now.sets))

pub returns-in-Some-false-clause-found : goal.returns-in-Some-false-clause-found
returns-in-Some-false-clause-found g c = rw (sym c.in-Some-false.ensures.said ∙ c.in-Some-false.field-0-test) (first-none c.args.self.now.sets [] _ refl c.in-Some-false.ensures.kept)

pub returns-in_ok-push-in-Some-true-clause-found : goal.returns-in_ok-push-in-Some-true-clause-found
returns-in_ok-push-in-Some-true-clause-found g c =
    let set = c.from_vec.ensures ∙ c.in_ok-to_vec-in-Some-true.ensures.items_if_clones_equal (λ _ _ same. same) in
    rw (sym c.in-Some-true.ensures.said ∙ c.in-Some-true.field-0-test, c.in_ok-push-in-Some-true.ensures.ok, c.in-Some-true.ensures.kept, set) (first-all true (c.args.self.now.sets ++ c.args.set.now ∷ []))

pub returns-then-len-eq-MOST_SETS-clause-stopped : goal.returns-then-len-eq-MOST_SETS-clause-stopped
returns-then-len-eq-MOST_SETS-clause-stopped g c =
    let more = length-append c.args.self.now.sets (c.args.set.now ∷ []) in
    rw (sym c.in-Some-true.ensures.said ∙ c.in-Some-true.field-0-test) (λ _. inl (omega arith, omega (arith, more, ap length c.in-Some-true.ensures.kept)))
