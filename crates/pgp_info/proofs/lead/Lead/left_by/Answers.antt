use Rattle.std.proofs.Common.{sym, ◌∙◌}
use Rattle.pgp_info.proofs.LeadLemmas.{left_distinct, left_stays}
use Rattle.pgp_info.proofs.lead.Lead.left_by.Goals as goal

pub returns-then-stays_without : goal.returns-then-stays_without
returns-then-stays_without g c = λ infos distinct is led.
    let prefer = c.args.prefer.now in
    left_stays (g.P.Prefer.better prefer) (g.met.P.Prefer.is_preference prefer) infos c.args.left.now c.args.member.now distinct is c.args.self led (sym c.stays_without.ensures ∙ c.if-stays_without.true)

pub returns-else-stays_without : goal.returns-else-stays_without
returns-else-stays_without g c = λ infos distinct is led.
    let prefer = c.args.prefer.now in
    c.among.ensures (left_distinct (g.P.Prefer.better prefer) (g.met.P.Prefer.is_preference prefer) infos c.args.left.now c.args.member.now distinct is c.args.self led)
