use Rattle.pgp_info.proofs.SameInfos.{same_best}
use Rattle.pgp_info.proofs.laws.order_of_infos_is_free.Goals as goal

pub returns : goal.returns
returns c = λ better a b laws distinct_a distinct_b same. same_best better a b laws distinct_a distinct_b (λ info. (same info).0) (λ info. (same info).1)
