use Rattle.std.proofs.Common.{◌≡◌, List, [], ◌++◌, drop, ◌∙◌, subst, ℕ}
use Rattle.std.proofs.lemmas.List.{drop_all}
use Rattle.pgp_reasons.proofs.GapLemmas.{left_above, left-is}
use Rattle.pgp_reasons.proofs.gaps.runs_beside.Goals as goal

pub returns : goal.returns
returns c =
    let numbers : List ℕ = c.args.numbers.now in
    let all : c.loop-number.gaps.items ++ left_above c.loop-number.reached (drop c.loop-number.number-index numbers) c.args.last ≡ left_above c.args.tail numbers c.args.last = c.loop-number.invariant in
    let none : drop c.loop-number.number-index numbers ≡ [] = drop_all c.loop-number.number-index numbers c.loop-number-test.false in
    c.from_vec.ensures ∙ c.in_ok-add_run-2.ensures
    ∙ (subst (λ (left : List ℕ). c.loop-number.gaps.items ++ left_above c.loop-number.reached left c.args.last ≡ left_above c.args.tail numbers c.args.last) none all)
    ∙ left-is c.args.tail c.args.last numbers c.requires
