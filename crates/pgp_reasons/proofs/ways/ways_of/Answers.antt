use Rattle.std.proofs.Common.{◌≡◌, ◌==◌, length, true, false, sym, ◌∙◌}
use Rattle.std.proofs.lemmas.Result.{IfOk-weaker}
use Rattle.pgp_reasons.proofs.ReasonsLemmas.{no-ways, ways-asked}
use Rattle.pgp_reasons.proofs.ways.ways_of.Goals as goal

pub returns-then-is_empty : goal.returns-then-is_empty
returns-then-is_empty c = λ g code map view.
    let none : (length c.args.view.now.blocked_by == 0) ≡ true = sym c.is_empty.ensures ∙ c.if-is_empty.true in
    no-ways g c.args.view.now c.no_ways.result view none c.no_ways.ensures

pub returns : goal.returns
returns c =
    let waited : (length c.args.view.now.blocked_by == 0) ≡ false = sym c.is_empty.ensures ∙ c.if-is_empty.false in
    IfOk-weaker c.smallest_of.result _ _
    (λ ways are g of_code of_map of_view.
    ways-asked g c.args.code.now c.args.map.now c.args.view.now ways of_code of_map of_view waited
    (rw (← c.as_slice-2.ensures, ← c.as_slice.ensures) are))
    c.smallest_of.ensures
