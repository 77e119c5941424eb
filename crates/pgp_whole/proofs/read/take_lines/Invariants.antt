use Rattle.std.proofs.Common.{◌≡◌, ◌⊎◌, [], ◌++◌, length}
use Rattle.std.specs.String.{string_bytes}
use Rattle.pgp_core.specs.Added.{entries_of_lines, entry_lines, log_of_lines}
use Rattle.pgp_core.specs.Lines.{lines_of}
use Rattle.pgp_whole.specs.Reading.{HasRefused}
use Rattle.pgp_whole.proofs.read.take_lines.Given as goal

abbrev pub decreases-loop-line : goal.decreases-loop-line
decreases-loop-line l = length l.rest

abbrev pub invariant-loop-line : goal.invariant-loop-line
invariant-loop-line l = record {
  format : l.reader.format ≡ l.fn.format;
  log : log_of_lines l.fn.format (lines_of l.fn.script) ≡ l.log ++ entries_of_lines (entry_lines l.fn.format l.log (lines_of l.rest));
  later : HasRefused l.fn.format l.log (lines_of l.rest) → HasRefused l.fn.format [] (lines_of l.fn.script);
  told : (string_bytes l.faults ≡ []) ⊎ HasRefused l.fn.format [] (lines_of l.fn.script);
}
