use Rattle.pgp_crush.proofs.ChoiceLemmas.{weight_moves_its_item}
use Rattle.pgp_crush.proofs.laws.a_weight_moves_its_item_alone.Goals as goal

pub returns : goal.returns
returns c = weight_moves_its_item
