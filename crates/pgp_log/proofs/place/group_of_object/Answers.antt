use Rattle.pgp_log.proofs.Common.{◌<◌, sym, ◌∙◌, arith}
use Rattle.pgp_log.proofs.LocateLemmas.{some-group, group-there}
use Rattle.pgp_log.proofs.place.group_of_object.Goals as goal

pub overflow_cast-result : goal.overflow_cast-result
overflow_cast-result c =
    let some = some-group c.requires.incs c.args.id c.in-Some.pool c.requires.checked (sym (c.pool.ensures.value c.requires.incs c.requires.is) ∙ c.in-Some.is) in
    let below : c.stable_mod.result < c.from-groups.result = c.stable_mod.ensures.within (omega (arith, some, c.from-groups.ensures)) in
    omega (arith, below, c.from-groups.ensures)

pub returns-clause-there : goal.returns-clause-there
returns-clause-there c =
    let is = sym (c.pool.ensures.value c.requires.incs c.requires.is) ∙ c.in-Some.is in
    let some = some-group c.requires.incs c.args.id c.in-Some.pool c.requires.checked is in
    group-there c.requires.incs c.args.map.now (record { pool = c.args.id; pg = c.stable_mod.result }) c.in-Some.pool c.requires.is c.requires.checked is
    (omega (arith, c.stable_mod.ensures.within (omega (arith, some, c.from-groups.ensures)), c.from-groups.ensures))
