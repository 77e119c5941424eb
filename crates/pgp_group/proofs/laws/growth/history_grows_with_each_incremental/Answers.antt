use Rattle.pgp_group.proofs.Common.{[], ◌∷◌, front-checked, last-checked}
use Rattle.pgp_group.proofs.GrowthLemmas.{epochs_ascend, has_group-grows, history-grows}
use Rattle.pgp_group.proofs.laws.growth.history_grows_with_each_incremental.Goals as goal

pub returns-clause-grows : goal.returns-clause-grows
returns-clause-grows c = λ incs inc pg h checked is.
    history-grows incs inc pg h (epochs_ascend incs (front-checked incs (inc ∷ []) checked)) (last-checked incs inc checked) is

pub returns-clause-stays : goal.returns-clause-stays
returns-clause-stays c = λ incs inc pg h checked is. has_group-grows incs inc pg h (last-checked incs inc checked) is
