use Rattle.pgp_compact.proofs.Common.{Bool, Entry, List, ap, are_needed_in, arith, get_or-map, is_needed, length, length-map, map, nat_tests, ◌∙◌, ◌≡◌}
use Rattle.pgp_compact.proofs.NeededLemmas.{are_needed-length, chosen-all, chosen-needed, chosen-next}
use Rattle.pgp_compact.proofs.walk.compact.Goals as goal

-- there is a choice for each entry
as-many : {X : Type 0} (f : X → Entry) (xs : List X) (choices : List Bool) → choices ≡ are_needed_in (map f xs) → length choices ≡ length xs
as-many f xs choices are = ap length are ∙ are_needed-length (is_needed (map f xs)) (map f xs) ∙ length-map xs f

pub loop-place-init : goal.loop-place-init
loop-place-init c = grind (arith, chosen-needed)

pub index-requires : goal.index-requires
index-requires c = grind (arith, as-many)

pub loop-place-preserved : goal.loop-place-preserved
loop-place-preserved c = grind (arith, nat_tests, get_or-map, chosen-next, as-many, length-map)

pub returns : goal.returns
returns c = grind (arith, chosen-all, length-map)
