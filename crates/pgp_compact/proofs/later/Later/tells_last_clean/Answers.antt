use Rattle.pgp_compact.proofs.Common.{arith, clean_in, flat_map, infos_in, infos_of, nat_tests, sym, ◌∙◌}
use Rattle.pgp_compact.proofs.LaterLemmas.{tells-none, tells-some}
use Rattle.pgp_compact.proofs.later.Later.tells_last_clean.Goals as goal

pub returns-in_default : goal.returns-in_default
returns-in_default c = λ log later g kept there opened.
    grind (arith, nat_tests, opened, tells-none g (infos_in c.args.info.now.pg later) c.args.info.now)

pub returns-then-not-exceeds : goal.returns-then-not-exceeds
returns-then-not-exceeds c = λ log later g kept there opened.
    let all = c.exceeds.ensures (flat_map (clean_in log) (infos_of log)) kept.all_cleans in
    let some = c.reaches.ensures (flat_map (clean_in log) (infos_of later)) kept.cleans in
    let tells = tells-some log later g c.args.info.now c.in-Some.first there (sym opened ∙ c.in-Some.is) in
    grind (arith, nat_tests, all, some, tells)

pub returns-else-not-exceeds : goal.returns-else-not-exceeds
returns-else-not-exceeds c = λ log later g kept there opened.
    let all = c.exceeds.ensures (flat_map (clean_in log) (infos_of log)) kept.all_cleans in
    let tells = tells-some log later g c.args.info.now c.in-Some.first there (sym opened ∙ c.in-Some.is) in
    grind (arith, nat_tests, all, tells)
