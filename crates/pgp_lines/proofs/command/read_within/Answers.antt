use Rattle.std.proofs.lemmas.Result.{IfOk-weaker}
use Rattle.pgp_lines.specs.Value.{view}
use Rattle.pgp_lines.proofs.Sized.{in_range}
use Rattle.pgp_lines.proofs.command.read_within.Goals as goal

pub returns-clause-epochs : goal.returns-clause-epochs
returns-clause-epochs c =
    IfOk-weaker c.read_command.result _ _ (λ command is. in_range c.args.last (view c.of.result) command is) c.read_command.ensures.read.0
