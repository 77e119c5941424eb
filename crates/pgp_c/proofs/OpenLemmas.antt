-- Lines that are read into a session one by one, and what is left of them.
use Rattle.std.proofs.Common.{◌≡◌, ℕ, ◌+◌, List, [], ◌∷◌, ◌++◌, Bool, refl, sym, ap, ◌∙◌, append_assoc, append-nil, subst, cond, if◌then◌else◌}
use Rattle.std.specs.List.{count_by}
use Rattle.std.proofs.lemmas.List.Sums.{sum_by-append}
use Rattle.pgp_ids.specs.declared.entry.Entry.{Entry}
use Rattle.pgp_lines.specs.declared.command.format.Format.{Format}
use Rattle.pgp_core.specs.Added.{IsOutcome, added_by, entries_of_lines, entry_lines, with_added}
use Rattle.pgp_core.specs.Session.{LogAndAnswer}
use Rattle.pgp_core.specs.declared.outcome.LineOutcome.{LineOutcome}
use Rattle.pgp_core.specs.declared.outcome.LineOutcome.TheVariants.{Blank, Taken, Asked, Refused}
use Rattle.pgp_core.proofs.AddedLemmas.{past-line}
use Rattle.pgp_c.specs.OpenLines.{AreLineOutcomes, HasReadLines, IsLineRefused, is_refused_outcome}

-- the log of all lines, where the log has these entries before them
abbrev pub whole_log : Format → List Entry → List (List ℕ) → List Entry
whole_log format log lines = log ++ entries_of_lines (entry_lines format log lines)

-- the lines before the rest were read, of which this many are refused
pub record IsReadUpTo (was now : LogAndAnswer) (lines rest : List (List ℕ)) (refused : ℕ) : Type 0 where
  pub log : whole_log was.format now.log rest ≡ whole_log was.format was.log lines
  pub answer : now.answer ≡ was.answer
  pub format : now.format ≡ was.format
  pub done : List LineOutcome
  pub count : refused ≡ count_by is_refused_outcome done
  pub goes_on : (more : List LineOutcome) → AreLineOutcomes was.format now.log rest more → AreLineOutcomes was.format was.log lines (done ++ more)

pub read-none : (was : LogAndAnswer) (lines : List (List ℕ)) → IsReadUpTo was was lines lines 0
read-none was lines = record { log = refl; answer = refl; format = refl; done = []; count = refl; goes_on = λ more are. are }

count-snoc : (done : List LineOutcome) (outcome : LineOutcome) → count_by is_refused_outcome (done ++ outcome ∷ []) ≡ count_by is_refused_outcome done + count_by is_refused_outcome (outcome ∷ [])
count-snoc done outcome = sum_by-append (λ it. cond (is_refused_outcome it) 1 0) done (outcome ∷ [])

count-one : (outcome : LineOutcome) → count_by is_refused_outcome (outcome ∷ []) ≡ (if is_refused_outcome outcome then 1 else 0)
count-one Blank = refl
count-one Taken = refl
count-one Asked = refl
count-one (Refused why) = refl

pub read-next : (was old new : LogAndAnswer) (lines rest : List (List ℕ)) (line : List ℕ) (flagged : Bool) (refused more : ℕ)
    → IsReadUpTo was old lines (line ∷ rest) refused → IsLineRefused old.format old.log line flagged
    → new.log ≡ with_added old.log (added_by old.format old.log line) → new.answer ≡ old.answer → new.format ≡ old.format
    → more ≡ refused + (if flagged then 1 else 0) → IsReadUpTo was new lines rest more
read-next was old new lines rest line flagged refused more before is log answer format counted =
    let outcome = is.outcome in
    let is_so : IsOutcome was.format old.log line outcome = subst (λ f. IsOutcome f old.log line outcome) before.format is.is in
    let log_so : new.log ≡ with_added old.log (added_by was.format old.log line) = log ∙ ap (λ f. with_added old.log (added_by f old.log line)) before.format in
    let one : (if flagged then 1 else 0) ≡ count_by is_refused_outcome (outcome ∷ []) = ap (λ b. if b then 1 else 0) is.refused_is ∙ sym (count-one outcome) in
    record {
      log = ap (λ l. whole_log was.format l rest) log_so ∙ sym (past-line was.format old.log line rest) ∙ before.log;
      answer = answer ∙ before.answer;
      format = format ∙ before.format;
      done = before.done ++ outcome ∷ [];
      count = counted ∙ ap (λ n. refused + n) one ∙ ap (λ n. n + count_by is_refused_outcome (outcome ∷ [])) before.count ∙ sym (count-snoc before.done outcome);
      goes_on = λ others are.
          subst (AreLineOutcomes was.format was.log lines) (sym (append_assoc before.done (outcome ∷ []) others))
          (before.goes_on (outcome ∷ others) (is_so, subst (λ l. AreLineOutcomes was.format l rest others) log_so are));
    }

pub read-all : (was now : LogAndAnswer) (lines : List (List ℕ)) (refused : ℕ) → IsReadUpTo was now lines [] refused → HasReadLines was now lines refused
read-all was now lines refused before = record {
  log = sym (append-nil now.log) ∙ before.log;
  answer = before.answer;
  format = before.format;
  refusals = record {
    outcomes = before.done;
    are = subst (AreLineOutcomes was.format was.log lines) (append-nil before.done) (before.goes_on [] tt);
    count = before.count;
  };
}
