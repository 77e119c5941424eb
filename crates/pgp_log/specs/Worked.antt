-- For worked examples: a proof that unfolds the one definition here sees all definitions of logs unfolded, so that they
-- compute on numerals.
use Rattle.pgp_map.specs.MapFault.{map_fault}
use Rattle.pgp_group.specs.Worked.{views_computed}

-- nothing but a name for the list below
unfoldable pub logs_computed : Type 0
unfolding map_fault views_computed
logs_computed = Unit {0}
