use Rattle.std.specs.Fmt.{digits}
use Rattle.serde_json.proofs.OnLiterals.{serde_json_on_literals}
use Rattle.pgp_core.proofs.line.want_line.Goals as goal

pub returns-in-Line : goal.returns-in-Line
unfolding digits serde_json_on_literals
returns-in-Line c = rw c.in-Line.is

pub returns-in-Entry : goal.returns-in-Entry
unfolding digits serde_json_on_literals
returns-in-Entry c = rw c.in-Entry.is
