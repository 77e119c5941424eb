use Rattle.std.proofs.Common.{◌≡◌, Some, arith}
use Rattle.std.proofs.lemmas.Bool.Decides.{nat_tests}
use Rattle.std.proofs.lemmas.Grind.{common_steps}
use Rattle.pgp_info.specs.Lead.{best_beside}
use Rattle.pgp_info.proofs.LeadLemmas.{lead_with}
use Rattle.pgp_info.proofs.lead.Lead.joined_by.Goals as goal
use Rattle.pgp_info.proofs.lead.Lead.joined_by.Goals.{else-info-via-then-info+then-le+else-is_ahead, else-info-via-then-info+else-le, else-info-via-else-info}

pub returns-then-is_ahead : goal.returns-then-is_ahead
returns-then-is_ahead g c = λ infos distinct led.
    let better = g.P.Prefer.better c.args.prefer.now in
    let rivals = c.since-rivals.result in
    let best : best_beside better rivals.start c.args.info.now rivals.best ≡ Some c.args.info.now = grind (arith, nat_tests, common_steps) in
    rw best at
    (lead_with better (g.met.P.Prefer.is_preference c.args.prefer.now) infos c.args.info.now distinct c.args.self rivals led
    (rw c.start_named_by.ensures at c.since-rivals.ensures.later) (rw c.start_named_by.ensures at c.since-rivals.ensures.known))

pub returns-else-info : goal.returns-else-info
returns-else-info g c = λ infos distinct led.
    let better = g.P.Prefer.better c.args.prefer.now in
    let rivals = c.since-rivals.result in
    let best : best_beside better rivals.start c.args.info.now rivals.best ≡ rivals.best = elim c.else-info.branch [
      | else-info-via-then-info+then-le+else-is_ahead w ↦ grind (arith, nat_tests, common_steps)
      | else-info-via-then-info+else-le w ↦ grind (arith, nat_tests, common_steps)
      | else-info-via-else-info w ↦ grind (arith, nat_tests, common_steps)
    ] in
    rw best at
    (lead_with better (g.met.P.Prefer.is_preference c.args.prefer.now) infos c.args.info.now distinct c.args.self rivals led
    (rw c.start_named_by.ensures at c.since-rivals.ensures.later) (rw c.start_named_by.ensures at c.since-rivals.ensures.known))
