use Rattle.std.proofs.Common.{◌≤◌, ◌+◌, length}
use Rattle.pgp_core.specs.Lines.{lines_of}
use Rattle.pgp_c.proofs.OpenLemmas.{IsReadUpTo}
use Rattle.pgp_c.proofs.open_lines.read_lines.Given as goal

abbrev pub invariant-loop-line : goal.invariant-loop-line
invariant-loop-line l = record {
  read : IsReadUpTo l.initial.session l.session (lines_of l.text) (lines_of l.rest) l.refused;
  few : l.refused + length l.rest ≤ length l.text;
}

abbrev pub decreases-loop-line : goal.decreases-loop-line
decreases-loop-line l = length l.rest
