use Rattle.std.proofs.Common.{rules}
use Rattle.pgp_info.proofs.lead.start_named_by.Goals as goal

pub returns-then-lt : goal.returns-then-lt
returns-then-lt c = search rules
