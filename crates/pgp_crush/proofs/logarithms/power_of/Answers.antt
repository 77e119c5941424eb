use Rattle.std.proofs.Common.{◌∙◌}
use Rattle.pgp_crush.proofs.LogarithmLemmas.{power_by_leading_zeros}
use Rattle.pgp_crush.proofs.logarithms.power_of.Goals as goal

pub returns-clause-value : goal.returns-clause-value
returns-clause-value c = c.min.ensures ∙ power_by_leading_zeros c.args.x c.requires.some c.requires.within
