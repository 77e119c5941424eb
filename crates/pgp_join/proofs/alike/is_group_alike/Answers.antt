use Rattle.pgp_group.proofs.Common.{◌≡◌, Some, IfOk-weaker}
use Rattle.std.proofs.Common.{rules}
use Rattle.pgp_group.specs.View.{scratch}
use Rattle.pgp_join.proofs.CheckLemmas.{group_Decides}
use Rattle.pgp_join.proofs.alike.is_group_alike.Goals as goal

pub returns-in-Some-Some-clause-alike : goal.returns-in-Some-Some-clause-alike
returns-in-Some-Some-clause-alike c =
    let is : scratch c.args.log.now c.args.pg.now ≡ Some c.in-Some-Some.view = search rules in
    let is' : scratch c.args.other.now c.args.pg.now ≡ Some c.in-Some-Some.other = search rules in
    IfOk-weaker c.are_intervals_alike.result _ _ (λ alike agree. group_Decides c.args.log.now c.args.other.now c.args.pg.now c.in-Some-Some.view c.in-Some-Some.other alike is is' agree)
    c.are_intervals_alike.ensures
