use Rattle.std.proofs.Common.{rules}
use Rattle.pgp_info.proofs.preference.OldestFirstPrefer.better.Goals as goal

pub returns : goal.returns
returns c = search rules
