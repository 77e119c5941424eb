use Rattle.std.proofs.Common.{arith}
use Rattle.std.proofs.lemmas.Bool.Decides.{nat_tests}
use Rattle.std.proofs.lemmas.Grind.{common_steps}
use Rattle.std.proofs.lemmas.List.Edits.{map_over_more}
use Rattle.pgp_prior.specs.kept.KnownStatuses.{renamed}
use Rattle.pgp_prior.proofs.statuses.Statuses.set.Goals as goal

pub loop-known-preserved : goal.loop-known-preserved
loop-known-preserved c = grind (arith, nat_tests, common_steps, map_over_more (renamed c.args.osd c.args.status))
