use Rattle.pgp_group.proofs.Common.{IfOk-weaker}
use Rattle.pgp_join.specs.Alike.{AgreeApart}
use Rattle.pgp_join.proofs.alike.are_alike.Goals as goal

pub returns-then-branch-clause-alike : goal.returns-then-branch-clause-alike
returns-then-branch-clause-alike c =
    let apart : AgreeApart c.args.log.now c.args.other.now = c.in_ok-agree_apart.ensures.agree.0 c.if-branch.true in
    let legal = c.in_ok-agree_apart.ensures.legal in
    IfOk-weaker c.are_groups_alike.result _ _
    (λ alike groups. (
      λ passed. record {
        legal = legal.0;
        other_legal = legal.1;
        closed_is = apart.0.0;
        no_longer = apart.0.1;
        agree = record { maps_are = apart.1; infos_are = apart.2.0; reports_are = apart.2.1; groups_are = groups.0 passed };
      },
      λ they. groups.1 they.agree.groups_are,
    ))
    c.are_groups_alike.ensures.alike
