use Rattle.std.proofs.Common.{◌≡◌, ◌∙◌, rules, tests, arith}
use Rattle.std.specs.Option.{is_some}
use Rattle.std.specs.List.{list_any}
use Rattle.std.proofs.lemmas.Iterator.{YieldsList-from_slice}
use Rattle.std.proofs.lemmas.Iterator.Search.{any_from_yields_List}
use Rattle.pgp_ids.proofs.part.Parts.are_of_size.Goals as goal

pub returns-then-are_fit : goal.returns-then-are_fit
returns-then-are_fit c =
    let there : c.any.result ≡ list_any is_some c.args.self.now =
    any_from_yields_List is_some _ _ c.any.result c.any.ensures.ran
    (YieldsList-from_slice c.args.self.now (c.iter.ensures.rest ∙ c.self.view_is)) (λ x b q k. search (rules, tests)) in
    grind (arith, there)
