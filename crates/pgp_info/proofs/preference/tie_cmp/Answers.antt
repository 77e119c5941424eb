use Rattle.std.proofs.Common.{rules}
use Rattle.pgp_info.proofs.preference.tie_cmp.Goals as goal

pub returns : goal.returns
returns c = search rules
