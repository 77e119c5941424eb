use Rattle.pgp_lines.proofs.FormatLemmas.{line-alike}
use Rattle.pgp_lines.proofs.laws.older_lines_are_read_alike.Goals as goal

pub returns : goal.returns
returns c = line-alike
