-- For worked examples: a proof that unfolds the one definition here sees all definitions of a
-- placement unfolded, so that they compute on numerals.
use Rattle.pgp_hash.specs.Mix.{mix_a, mix_b, mix_c, mix}
use Rattle.pgp_hash.specs.Hash.{hash2, hash3, hash4}
use Rattle.pgp_crush.specs.Least.{least_from, greatest_below}
use Rattle.pgp_crush.specs.Logarithm.{log_digits, logarithm}
use Rattle.pgp_crush.specs.Choice.{list_place, straw2_place, traced_back, uniform_place, choice}
use Rattle.pgp_crush.specs.Descent.{path, first_stop}
use Rattle.pgp_crush.specs.Out.{is_in_by}
use Rattle.pgp_crush.specs.Candidate.{leaf_of, candidate}
use Rattle.pgp_crush.specs.FirstN.{pick_of, first_picks}
use Rattle.pgp_crush.specs.Cells.{cells_row, cells_after}
use Rattle.pgp_crush.specs.TreeFault.{below_levels, fault_below_root, tree_fault}

-- nothing but a name for the list below
unfoldable pub placements_computed : Type 0
unfolding mix_a mix_b mix_c mix hash2 hash3 hash4 least_from greatest_below log_digits logarithm list_place straw2_place traced_back uniform_place choice path first_stop is_in_by leaf_of candidate pick_of first_picks cells_row cells_after below_levels fault_below_root tree_fault
placements_computed = Unit {0}
