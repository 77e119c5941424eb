use Rattle.pgp_compact.proofs.Common.{Contains, Entry, List, ap, arc_value, arith, contains-map, drop, drop-length, length, map, reverse-append, subst, sym, ℕ, ◌-◌, ◌<◌, ◌∙◌, ◌≡◌}
use Rattle.pgp_compact.proofs.WholeLemmas.{one-earlier}
use Rattle.pgp_compact.proofs.walk.needed.Goals as goal

pub loop-step-init : goal.loop-step-init
loop-step-init c =
    let xs = c.args.entries.now in
    let all : length xs - 0 ≡ length xs = omega arith in
    let none = ap (λ (n : ℕ). drop n xs) all ∙ drop-length xs in
    grind (arith, none, c.new-later.ensures (map arc_value xs), c.new-choices.ensures.items)

pub loop-step-preserved : goal.loop-step-preserved
loop-step-preserved c =
    let xs = c.args.entries.now in
    let log : List Entry = map arc_value xs in
    let step : ℕ = c.loop-step.step in
    let rest : List Entry = map arc_value (drop (length xs - step) xs) in
    let item = c.index-entries-entries.result in
    let place : length xs - 1 - step < length xs = omega (arith, c.loop-step-test.true) in
    let there : Contains log c.deref.result.now =
    subst (Contains log) (sym c.deref.ensures) (contains-map arc_value xs item (length xs - 1 - step, place, sym c.index-entries-entries.is)) in
    let judged = c.in_ok-needs.ensures log rest c.in_ok-whole.ensures c.loop-step.invariant.later there in
    grind (arith, one-earlier xs step item c.loop-step-test.true c.index-entries-entries.is, judged.0, judged.1, reverse-append)

pub returns : goal.returns
returns c = grind (arith, c.loop-step.invariant.choices)
