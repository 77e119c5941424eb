use Rattle.std.proofs.Common.{refl}
use Rattle.std.specs.Fmt.{digits}
use Rattle.serde_json.proofs.OnLiterals.{serde_json_on_literals}
use Rattle.pgp_core.proofs.line.long_line.Goals as goal

pub returns : goal.returns
unfolding digits serde_json_on_literals
returns c = refl
