use Rattle.std.proofs.Common.{◌≡◌, ◌++◌, length}
use Rattle.pgp_lines.specs.declared.command.format.Format.TheVariants.{Three}
use Rattle.pgp_core.specs.Added.{entries_of_lines, entry_lines, log_of_lines}
use Rattle.pgp_core.specs.Lines.{lines_of}
use Rattle.pgp_join.proofs.lines.log_of_text.Given as goal

abbrev pub decreases-loop-line : goal.decreases-loop-line
decreases-loop-line l = length l.rest

abbrev pub invariant-loop-line : goal.invariant-loop-line
invariant-loop-line l = record {
  format : l.reader.format ≡ Three;
  log : log_of_lines Three (lines_of l.text) ≡ l.log ++ entries_of_lines (entry_lines Three l.log (lines_of l.rest));
}
