use Rattle.std.proofs.Common.{ap, ◌∙◌, arith}
use Rattle.pgp_core.specs.Lines.{lines_of}
use Rattle.pgp_core.proofs.CutLemmas.{lines-first, lines-last}
use Rattle.pgp_core.proofs.whole.first_line.Goals as goal

pub returns-in-Some-clause-lines : goal.returns-in-Some-clause-lines
returns-in-Some-clause-lines c = ap lines_of c.in-Some.ensures.whole ∙ lines-first c.in-Some.line.now c.in-Some.rest.now c.in-Some.ensures.one_line

pub returns-in-None-clause-lines : goal.returns-in-None-clause-lines
returns-in-None-clause-lines c = lines-last c.args.script.now c.in-None.ensures.none (grind arith)
