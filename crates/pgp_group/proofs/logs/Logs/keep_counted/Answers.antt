use Rattle.pgp_group.proofs.Common.{rules}
use Rattle.std.proofs.lemmas.Fn.{filter_same}
use Rattle.pgp_group.specs.kept.KeptReports.{counts_log}
use Rattle.pgp_group.proofs.logs.Logs.keep_counted.Goals as goal

pub returns : goal.returns
returns c = λ g here. filter_same _ (counts_log g) _ (λ x b f' k. search rules) _ _ c.retain.ensures.filtered
