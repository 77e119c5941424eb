use Rattle.std.proofs.Common.{rules}
use Rattle.pgp_prior.proofs.blocking.is_settled.Goals as goal

pub returns-in-Up : goal.returns-in-Up
returns-in-Up c = search rules
