use Rattle.pgp_info.proofs.BestLemmas.{best_info-IsBest, IsBest-best_info, best_info-none, none-best_info}
use Rattle.pgp_info.proofs.laws.best_info_is_the_unbeaten_candidate.Goals as goal

pub returns-clause-best : goal.returns-clause-best
returns-clause-best c = λ better infos info laws distinct. (best_info-IsBest better infos info, IsBest-best_info better laws infos distinct info)

pub returns-clause-none : goal.returns-clause-none
returns-clause-none c = λ better infos laws distinct. (best_info-none better laws infos distinct, none-best_info better infos)
