-- For worked examples: a proof that unfolds the one definition here sees all definitions of this
-- crate unfolded, so that they compute on numerals.
use Rattle.pgp_hash.specs.Mix.{mix_a, mix_b, mix_c, mix, triple_sum}
use Rattle.pgp_hash.specs.Hash.{hash2, hash3, hash4}
use Rattle.pgp_hash.specs.NameHash.{words_after, name_hash}
use Rattle.pgp_hash.specs.StableMod.{least_exponent, stable_mod}

-- nothing but a name for the list below
unfoldable pub hashes_computed : Type 0
unfolding mix_a mix_b mix_c mix triple_sum hash2 hash3 hash4 words_after name_hash least_exponent stable_mod
hashes_computed = Unit {0}
