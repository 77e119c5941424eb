use Rattle.std.proofs.Common.{arith}
use Rattle.std.proofs.lemmas.Grind.{common_steps}
use Rattle.pgp_lines.proofs.Readable.{is_readable-walk}
use Rattle.pgp_lines.proofs.command.value.is_readable.Goals as goal

pub returns-then-depth-ge-MAX_DEPTH : goal.returns-then-depth-ge-MAX_DEPTH
returns-then-depth-ge-MAX_DEPTH c = is_readable-walk _ _ (grind (arith, common_steps))

pub returns-then-is_none : goal.returns-then-is_none
returns-then-is_none c = is_readable-walk _ _ (grind (arith, common_steps))

pub returns : goal.returns
returns c = is_readable-walk _ _ (grind (arith, common_steps))
