use Rattle.pgp_compact.proofs.Common.{arith, infos_of, map, nat_tests, told_opening}
use Rattle.pgp_compact.proofs.LaterLemmas.{starts-are}
use Rattle.pgp_compact.proofs.later.Later.tells_last_start.Goals as goal

pub returns-then-le : goal.returns-then-le
returns-then-le c = λ log later g kept is.
    let noted = c.reaches.ensures (map told_opening (infos_of later)) kept.starts in
    grind (arith, nat_tests, noted, starts-are c.args.info.now (infos_of later))
