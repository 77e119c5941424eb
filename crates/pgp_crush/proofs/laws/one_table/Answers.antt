use Rattle.pgp_crush.proofs.IndepLemmas.{one_table}
use Rattle.pgp_crush.proofs.laws.one_table.Goals as goal

pub returns-clause-only : goal.returns-clause-only
returns-clause-only c = one_table
