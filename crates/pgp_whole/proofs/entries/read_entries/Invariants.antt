use Rattle.std.proofs.Common.{◌≡◌, length}
use Rattle.pgp_core.specs.Lines.{lines_of}
use Rattle.pgp_whole.specs.kept.Entries.{IsReadTo}
use Rattle.pgp_whole.proofs.entries.read_entries.Given as goal

abbrev pub invariant-loop-line : goal.invariant-loop-line
invariant-loop-line l = record {
  format : l.reader.format ≡ l.fn.format;
  read : IsReadTo l.fn.format (lines_of l.script) (lines_of l.rest) l.read;
}

abbrev pub decreases-loop-line : goal.decreases-loop-line
decreases-loop-line l = length l.rest
