use Rattle.std.proofs.Common.{arith}
use Rattle.pgp_map.proofs.NumberSetLemmas.{has-inserted_at}
use Rattle.pgp_map.proofs.number_set.NumberSet.insert.Goals as goal

pub returns-clause-now : goal.returns-clause-now
returns-clause-now c = λ n. has-inserted_at c.args.self.now.words c.args.number n c.from.result (omega (arith, c.from.ensures)) (omega (arith, c.from.ensures, c.requires))
