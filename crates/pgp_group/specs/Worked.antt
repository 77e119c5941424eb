-- For worked examples: a proof that unfolds the one definition here sees all definitions of a view unfolded, so that they
-- compute on numerals.
use Rattle.pgp_sets.specs.Worked.{sets_computed}

-- nothing but a name for the list below
unfoldable pub views_computed : Type 0
unfolding sets_computed
views_computed = Unit {0}
