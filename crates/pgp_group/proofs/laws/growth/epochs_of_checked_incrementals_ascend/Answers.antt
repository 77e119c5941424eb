use Rattle.pgp_group.proofs.Common.{front-checked, last-checked, [], ◌∷◌}
use Rattle.pgp_group.proofs.GrowthLemmas.{counts, epochs_ascend, linked, up_to-epoch, up_to-passed}
use Rattle.pgp_group.proofs.laws.growth.epochs_of_checked_incrementals_ascend.Goals as goal

pub returns-clause-all : goal.returns-clause-all
returns-clause-all c = λ incs checked. up_to-epoch incs (epochs_ascend incs checked)

pub returns-clause-passed : goal.returns-clause-passed
returns-clause-passed c = λ incs inc at checked from below. up_to-passed incs inc at (epochs_ascend incs (front-checked incs (inc ∷ []) checked)) from below

pub returns-clause-linked : goal.returns-clause-linked
returns-clause-linked c = λ incs inc checked. linked incs inc (last-checked incs inc checked)

pub returns-clause-counts : goal.returns-clause-counts
returns-clause-counts c = λ incs checked each. (counts incs checked each).0

pub returns-clause-last : goal.returns-clause-last
returns-clause-last c = λ incs checked each. (counts incs checked each).1
