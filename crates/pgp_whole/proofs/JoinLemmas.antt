-- A script that remains stands for itself.
use Rattle.std.proofs.Common.{◌≡◌, ℕ, List, [], length, refl, ap, sym, ◌∙◌, subst}
use Rattle.pgp_lines.specs.declared.command.format.Format.TheVariants.{Three}
use Rattle.pgp_core.specs.Added.{log_of_lines}
use Rattle.pgp_core.specs.Lines.{lines_of}
use Rattle.pgp_core.proofs.AddedLemmas.{lines-legal}
use Rattle.pgp_join.specs.Bound.{IsJoinedLog}
use Rattle.pgp_join.proofs.AnswerLemmas.{joined-itself}
use Rattle.pgp_whole.specs.declared.compact.Compaction.{Compaction}
use Rattle.pgp_whole.specs.Compaction.{HasCounts}
use Rattle.pgp_whole.specs.Joining.{HasJoinedCounts, StandsFor}
use Rattle.pgp_whole.specs.Remaining.{compacted_text}
use Rattle.pgp_whole.proofs.Script.{remain-each, remain-lines}

pub stands-itself : (script text : List ℕ) → text ≡ compacted_text Three script → StandsFor script text
stands-itself script text is =
    let log = log_of_lines Three (lines_of (compacted_text Three script)) in
    subst (λ t. IsJoinedLog log (log_of_lines Three (lines_of t))) (sym is) (joined-itself log (lines-legal Three [] (lines_of (compacted_text Three script)) refl))

pub counts-itself : (script text : List ℕ) (counts : Compaction) → text ≡ compacted_text Three script → HasCounts Three script counts → HasJoinedCounts script text counts
counts-itself script text counts is has = record {
  entries = has.entries;
  kept = has.kept ∙ remain-each Three script ∙ ap (λ l. length (log_of_lines Three l)) (sym (remain-lines Three script)) ∙ ap (λ t. length (log_of_lines Three (lines_of t))) (sym is);
}
