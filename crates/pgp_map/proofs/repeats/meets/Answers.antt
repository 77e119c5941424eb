use Rattle.std.proofs.Common.{◌≡◌, ◌<◌, ◌∙◌, true, false, map, length, get_or, ap, sym, arith}
use Rattle.std.proofs.lemmas.List.{get_or-map, length-map}
use Rattle.pgp_map.specs.NumberSet.{has}
use Rattle.pgp_map.proofs.RepeatLemmas.{nothing-put, one-put, one-met, all-put, none-met}
use Rattle.pgp_map.proofs.repeats.meets.Goals as goal

pub loop-item-init : goal.loop-item-init
loop-item-init g c = nothing-put (has c.args.seen.now) (map g.T.Naming.name c.args.items.now)

pub loop-item-preserved : goal.loop-item-preserved
loop-item-preserved g c =
    let within : c.loop-item.item-index < length c.args.items.now = omega arith in
    let is : c.number.result ≡ get_or (map g.T.Naming.name c.args.items.now) c.loop-item.item-index c.number.result =
    c.number.ensures.value ∙ ap g.T.Naming.name c.item-item.is ∙ sym (get_or-map g.T.Naming.name c.args.items.now c.loop-item.item-index c.item-item.result c.number.result within) in
    let apart : has c.loop-item.seen c.number.result ≡ false = grind (arith, c.insert.ensures.added, c.if-not-insert.false) in
    one-put (has c.args.seen.now) (has c.loop-item.seen) (has c.insert.new.self) (map g.T.Naming.name c.args.items.now) c.loop-item.item-index c.number.result
    (omega (arith, within, length-map c.args.items.now g.T.Naming.name)) is apart c.insert.ensures.now c.loop-item.invariant

pub returns-then-not-insert-clause-value : goal.returns-then-not-insert-clause-value
returns-then-not-insert-clause-value g c =
    let within : c.loop-item.item-index < length c.args.items.now = omega arith in
    let is : c.number.result ≡ get_or (map g.T.Naming.name c.args.items.now) c.loop-item.item-index c.number.result =
    c.number.ensures.value ∙ ap g.T.Naming.name c.item-item.is ∙ sym (get_or-map g.T.Naming.name c.args.items.now c.loop-item.item-index c.item-item.result c.number.result within) in
    let there : has c.loop-item.seen c.number.result ≡ true = grind (arith, c.insert.ensures.added, c.if-not-insert.true) in
    sym (one-met (has c.args.seen.now) (has c.loop-item.seen) (map g.T.Naming.name c.args.items.now) c.loop-item.item-index c.number.result
    (omega (arith, within, length-map c.args.items.now g.T.Naming.name)) is there c.loop-item.invariant)

pub returns-clause-value : goal.returns-clause-value
returns-clause-value g c =
    sym (none-met (has c.args.seen.now) (has c.loop-item.seen) (map g.T.Naming.name c.args.items.now) c.loop-item.item-index
    (omega (arith, c.loop-item-test.false, length-map c.args.items.now g.T.Naming.name)) c.loop-item.invariant)

pub returns-clause-put : goal.returns-clause-put
returns-clause-put g c = λ none. λ n.
    all-put (has c.args.seen.now) (has c.loop-item.seen) (map g.T.Naming.name c.args.items.now) c.loop-item.item-index
    (omega (arith, c.loop-item-test.false, length-map c.args.items.now g.T.Naming.name)) c.loop-item.invariant n
