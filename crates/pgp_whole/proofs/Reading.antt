-- What is read of a script after one line more.
use Rattle.std.proofs.Common.{◌≡◌, ℕ, List, [], ◌∷◌, ◌++◌, Some, None, refl, sym, ap, ◌∙◌, append_assoc, append-nil}
use Rattle.std.proofs.lemmas.List.{map-append}
use Rattle.pgp_ids.specs.declared.entry.Entry.{Entry}
use Rattle.pgp_lines.specs.declared.command.format.Format.{Format}
use Rattle.pgp_core.specs.Added.{EntryLine, IsOutcome, added_by, entries_of_lines, entry_line, entry_lines, with_added}
use Rattle.pgp_core.specs.declared.outcome.LineOutcome.{LineOutcome}
use Rattle.pgp_core.specs.declared.outcome.LineOutcome.TheVariants.{Blank, Taken, Asked, Refused}
use Rattle.pgp_whole.specs.kept.Entries.{IsReadTo, kept_of, texts}
use Rattle.pgp_whole.specs.Remaining.{bare}
use Rattle.pgp_whole.specs.declared.entries.ScriptEntries.{ScriptEntries}

-- a line that adds an entry
read-taken : (format : Format) (lines rest : List (List ℕ)) (line : List ℕ) (entry : Entry) (old new : ScriptEntries) → added_by format old.log line ≡ Some entry
    → new.log ≡ with_added old.log (added_by format old.log line) → texts new ≡ texts old ++ line ∷ [] → IsReadTo format lines (line ∷ rest) old → IsReadTo format lines rest new
read-taken format lines rest line entry old new adds log kept before =
    let it : EntryLine = entry_line line entry in
    let grown : new.log ≡ old.log ++ entry ∷ [] = log ∙ ap (with_added old.log) adds in
    let on : it ∷ entry_lines format (old.log ++ entry ∷ []) rest ≡ entry_lines format old.log (line ∷ rest) = rw adds refl in
    record {
      done = before.done ++ it ∷ [];
      log_is = grown ∙ ap (λ (l : List Entry). l ++ entry ∷ []) before.log_is ∙ sym (map-append (λ (e : EntryLine). e.entry) before.done (it ∷ []));
      lines_are = kept ∙ ap (λ (l : List (List ℕ)). l ++ line ∷ []) before.lines_are ∙ sym (map-append (λ (e : EntryLine). e.line) before.done (it ∷ []));
      goes_on = ap (λ (l : List Entry). (before.done ++ it ∷ []) ++ entry_lines format l rest) grown
          ∙ append_assoc before.done (it ∷ []) (entry_lines format (old.log ++ entry ∷ []) rest)
          ∙ ap (λ (l : List EntryLine). before.done ++ l) on ∙ before.goes_on;
    }

-- any other line
read-other : (format : Format) (lines rest : List (List ℕ)) (line : List ℕ) (old new : ScriptEntries) → added_by format old.log line ≡ None
    → new.log ≡ with_added old.log (added_by format old.log line) → texts new ≡ texts old → IsReadTo format lines (line ∷ rest) old → IsReadTo format lines rest new
read-other format lines rest line old new adds log kept before =
    let same : new.log ≡ old.log = log ∙ ap (with_added old.log) adds in
    let on : entry_lines format old.log rest ≡ entry_lines format old.log (line ∷ rest) = rw adds refl in
    record {
      done = before.done;
      log_is = same ∙ before.log_is;
      lines_are = kept ∙ before.lines_are;
      goes_on = ap (λ (l : List Entry). before.done ++ entry_lines format l rest) same ∙ ap (λ (l : List EntryLine). before.done ++ l) on ∙ before.goes_on;
    }

-- a line, by what it was to the log
pub read-line : (format : Format) (lines rest : List (List ℕ)) (line : List ℕ) (outcome : LineOutcome) (old new : ScriptEntries) → IsOutcome format old.log line outcome
    → new.log ≡ with_added old.log (added_by format old.log line) → texts new ≡ texts old ++ kept_of outcome line → IsReadTo format lines (line ∷ rest) old → IsReadTo format lines rest new
read-line format lines rest line Taken old new is log kept before = read-taken format lines rest line is.0 old new is.1 log kept before
read-line format lines rest line Blank old new is log kept before = read-other format lines rest line old new (rw is refl) log (kept ∙ append-nil (texts old)) before
read-line format lines rest line Asked old new is log kept before = read-other format lines rest line old new is.0 log (kept ∙ append-nil (texts old)) before
read-line format lines rest line (Refused why) old new is log kept before = read-other format lines rest line old new is.0 log (kept ∙ append-nil (texts old)) before

-- all lines
pub all-read : (format : Format) (lines : List (List ℕ)) (read : ScriptEntries) → IsReadTo format lines [] read
    → (read.log ≡ entries_of_lines (entry_lines format [] lines)) × (texts read ≡ bare (entry_lines format [] lines))
all-read format lines read before =
    let all : before.done ≡ entry_lines format [] lines = sym (append-nil before.done) ∙ before.goes_on in
    (before.log_is ∙ ap entries_of_lines all, before.lines_are ∙ ap bare all)
