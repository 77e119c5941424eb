use Rattle.std.proofs.Common.{◌≡◌, ℕ, List, ◌++◌, ap, sym, ◌∙◌}
use Rattle.pgp_ids.specs.declared.entry.Entry.{Entry}
use Rattle.pgp_lines.specs.declared.command.format.Format.TheVariants.{Three}
use Rattle.pgp_core.specs.Added.{added_by, entries_of_lines, entry_lines, with_added}
use Rattle.pgp_core.specs.Lines.{lines_of}
use Rattle.pgp_core.proofs.AddedLemmas.{past-line}
use Rattle.pgp_join.proofs.lines.log_of_text.Goals as goal

pub loop-line-preserved : goal.loop-line-preserved
loop-line-preserved c =
    let same = c.loop-line.invariant.format in
    let log : List Entry = c.loop-line.log in
    let line : List ℕ = c.in-Some.line.now in
    let lines : List (List ℕ) = lines_of c.in-Some.others.now in
    let after : c.read_line.new.self ≡ with_added log (added_by Three log line) = rw same at c.in_ok-_outcome.ensures.log in
    record {
      format = c.read_line.ensures.format ∙ same;
      log = c.loop-line.invariant.log
          ∙ ap (λ (l : List (List ℕ)). log ++ entries_of_lines (entry_lines Three log l)) c.in-Some.ensures.lines
          ∙ past-line Three log line lines
          ∙ ap (λ (l : List Entry). l ++ entries_of_lines (entry_lines Three l lines)) (sym after);
    }
