use Rattle.std.proofs.Common.{◌≡◌, ◌+◌, length}
use Rattle.pgp_core.specs.Lines.{lines_of}
use Rattle.pgp_core.proofs.whole.has_lines_within.Given as goal

abbrev pub invariant-loop-others : goal.invariant-loop-others
invariant-loop-others l = l.left + length (lines_of l.script) ≡ l.most + length (lines_of l.rest)

abbrev pub decreases-loop-others : goal.decreases-loop-others
decreases-loop-others l = length l.rest
