use Rattle.std.proofs.Common.{rules}
use Rattle.pgp_join.proofs.Same.{is_same_info}
use Rattle.pgp_join.proofs.SameLemmas.{info_Decides, lists_Decide}
use Rattle.pgp_join.proofs.reports.are_same_infos.Goals as goal

pub returns : goal.returns
returns c = lists_Decide is_same_info info_Decides c.args.other.now c.args.infos.now c.eq.result c.eq.ensures (λ a b. search rules)
