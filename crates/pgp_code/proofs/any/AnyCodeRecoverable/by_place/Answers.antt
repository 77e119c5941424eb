use Rattle.std.proofs.Common.{rules}
use Rattle.pgp_code.proofs.any.AnyCodeRecoverable.by_place.Goals as goal

pub returns-in-Replicated : goal.returns-in-Replicated
returns-in-Replicated c = search rules
