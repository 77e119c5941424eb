use Rattle.std.proofs.Common.{sym, ◌∙◌}
use Rattle.pgp_lines.proofs.FormatLemmas.{line-alike}
use Rattle.pgp_lines.proofs.AfterLemmas.{line-next}
use Rattle.pgp_lines.proofs.laws.older_incrementals_pass_over_no_epoch.Goals as goal

pub returns-clause-up_to_2 : goal.returns-clause-up_to_2
returns-clause-up_to_2 c = line-next

pub returns-clause-up_to_3 : goal.returns-clause-up_to_3
returns-clause-up_to_3 c line d format inc read is answer = line-next line inc (sym (line-alike line d format read is) ∙ answer)
