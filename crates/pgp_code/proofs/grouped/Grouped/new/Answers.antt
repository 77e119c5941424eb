use Rattle.std.proofs.Common.{◌≡◌, ◌∙◌, rules, tests, arith}
use Rattle.std.specs.List.{list_any}
use Rattle.std.specs.Option.{is_some}
use Rattle.std.proofs.lemmas.Iterator.{YieldsList-from_slice}
use Rattle.std.proofs.lemmas.Iterator.Search.{any_from_yields_List}
use Rattle.pgp_code.proofs.grouped.Grouped.new.Goals as goal
use Rattle.pgp_code.proofs.grouped.Grouped.new.Goals.{else-has_part-via-then-has_part+else-each_wants_a_slot, else-has_part-via-else-has_part}

pub returns-else-has_part-clause-variant : goal.returns-else-has_part-clause-variant
returns-else-has_part-clause-variant c =
    let there : c.any-has_part.result ≡ list_any is_some c.args.groups =
    any_from_yields_List is_some _ _ c.any-has_part.result c.any-has_part.ensures.ran
    (YieldsList-from_slice c.args.groups (c.iter.ensures.rest ∙ c.places-places.ensures)) (λ x b q k. search (rules, tests)) in
    elim c.else-has_part.branch [
      | else-has_part-via-then-has_part+else-each_wants_a_slot w ↦ grind (arith, there)
      | else-has_part-via-else-has_part w ↦ grind (arith, there)
    ]
