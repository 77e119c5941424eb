use Rattle.std.proofs.Common.{◌≡◌, ℕ, List, ◌∷◌, ◌++◌, ap, sym, ◌∙◌, inl, inr, subst}
use Rattle.pgp_ids.specs.declared.entry.Entry.{Entry}
use Rattle.pgp_lines.specs.declared.command.format.Format.{Format}
use Rattle.pgp_core.specs.Added.{added_by, entries_of_lines, entry_lines, with_added}
use Rattle.pgp_core.specs.Lines.{lines_of}
use Rattle.pgp_whole.specs.Reading.{HasRefused}
use Rattle.pgp_core.proofs.AddedLemmas.{past-line}
use Rattle.pgp_whole.proofs.read.take_lines.Goals as goal

pub loop-line-preserved : goal.loop-line-preserved
loop-line-preserved c =
    let format : Format = c.args.format in
    let same : c.loop-line.reader.format ≡ format = c.loop-line.invariant.format in
    let log : List Entry = c.loop-line.log in
    let line : List ℕ = c.in-Some.line.now in
    let lines : List (List ℕ) = lines_of c.in-Some.others.now in
    let split : lines_of c.loop-line.rest.now ≡ line ∷ lines = c.in-Some.ensures.lines in
    let after : c.take_line.new.log ≡ with_added log (added_by format log line) = rw same at c.in_ok-take_line.ensures.log in
    record {
      format = c.take_line.ensures.format ∙ same;
      log = c.loop-line.invariant.log
          ∙ ap (λ (l : List (List ℕ)). log ++ entries_of_lines (entry_lines format log l)) split
          ∙ past-line format log line lines
          ∙ ap (λ (l : List Entry). l ++ entries_of_lines (entry_lines format l lines)) (sym after);
      later = λ has. c.loop-line.invariant.later
          (subst (λ (l : List (List ℕ)). HasRefused format log l) (sym split) (inr (subst (λ (l : List Entry). HasRefused format l lines) after has)));
      told = elim (rw same at c.in_ok-take_line.ensures.told) [
        | inl same ↦ elim c.loop-line.invariant.told [ inl none ↦ inl (same ∙ none) | inr some ↦ inr some ]
        | inr refused ↦ inr (c.loop-line.invariant.later (subst (λ (l : List (List ℕ)). HasRefused format log l) (sym split) (inl refused)))
      ];
    }
