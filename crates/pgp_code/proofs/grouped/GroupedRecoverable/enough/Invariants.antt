use Rattle.std.proofs.Common.{◌≡◌, drop}
use Rattle.pgp_code.specs.Parts.{enough_parts}
use Rattle.pgp_code.proofs.grouped.GroupedRecoverable.enough.Given as goal

abbrev pub invariant-loop-group : goal.invariant-loop-group
invariant-loop-group l = enough_parts l.group-items l.have ≡ enough_parts (drop l.group-index l.group-items) l.have
