-- For worked examples: a proof that unfolds the one definition here sees all definitions of a membership unfolded, so
-- that they compute on numerals.
use Rattle.pgp_hash.specs.Worked.{hashes_computed}
use Rattle.pgp_crush.specs.Worked.{placements_computed}

-- nothing but a name for the list below
unfoldable pub sets_computed : Type 0
unfolding hashes_computed placements_computed
sets_computed = Unit {0}
