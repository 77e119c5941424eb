use Rattle.std.proofs.Common.{[], refl}
use Rattle.pgp_core.proofs.AddedLemmas.{lines-legal, lines-made}
use Rattle.pgp_core.proofs.laws.entries.a_script_makes_its_log.Goals as goal

pub returns-clause-run : goal.returns-clause-run
returns-clause-run c = λ format lines. lines-made format [] lines

pub returns-clause-legal : goal.returns-clause-legal
returns-clause-legal c = λ format lines. lines-legal format [] lines refl
