use Rattle.pgp_group.proofs.Common.{best_info-IsBest, IsBest-best_info, best_info-none, none-best_info, counted_infos, heard, leader, arith}
use Rattle.pgp_group.specs.Prefers.{prefers}
use Rattle.pgp_group.proofs.HeardLemmas.{HasDistinctMembers-last_of}
use Rattle.pgp_group.proofs.ViewLemmas.{prefers_is_preference}
use Rattle.pgp_group.proofs.laws.best_info_of_a_group.Goals as goal

pub returns-clause-best : goal.returns-clause-best
returns-clause-best c = λ g info. (
  grind (arith, best_info-IsBest (prefers g.history.code (leader g)) (heard g) info),
  IsBest-best_info (prefers g.history.code (leader g)) (prefers_is_preference g.history.code (leader g)) (heard g) (HasDistinctMembers-last_of (counted_infos g)) info,
)

pub returns-clause-none : goal.returns-clause-none
returns-clause-none c = λ g. (
  best_info-none (prefers g.history.code (leader g)) (prefers_is_preference g.history.code (leader g)) (heard g) (HasDistinctMembers-last_of (counted_infos g)),
  none-best_info (prefers g.history.code (leader g)) (heard g),
)
