use Rattle.std.proofs.Common.{rules}
use Rattle.pgp_join.proofs.Same.{is_same_past}
use Rattle.pgp_join.proofs.SameLemmas.{past_Decides, lists_Decide}
use Rattle.pgp_join.proofs.alike.are_same_intervals.Goals as goal

pub returns : goal.returns
returns c = lists_Decide is_same_past past_Decides c.args.other.now c.args.past.now c.eq.result c.eq.ensures (λ a b. search rules)
