use Rattle.std.proofs.Common.{◌∙◌, sym, rules, tests}
use Rattle.std.proofs.lemmas.Iterator.{YieldsList-from_slice}
use Rattle.std.proofs.lemmas.Iterator.Search.{any_from_yields_List}
use Rattle.pgp_map.proofs.temp_check.has_bad_places.Goals as goal

pub returns-else-is_by_place : goal.returns-else-is_by_place
returns-else-is_by_place c =
    rw (sym c.is_by_place.ensures ∙ c.if-is_by_place.false)
    (any_from_yields_List _ _ _ _ c.any.ensures.ran (YieldsList-from_slice c.args.places.now cc) (λ x b q k. search (rules, tests)))
