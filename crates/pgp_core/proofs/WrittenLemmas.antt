-- One line more of what is written for lines, and what is written where nobody else adds to the log.
use Rattle.std.proofs.Common.{◌≡◌, ℕ, suc, ◌<◌, List, [], ◌∷◌, ◌++◌, Bool, true, false, Option, Some, None, length, nat_lt, arith, refl, sym, ap, ap₂, subst, ◌∙◌, append_assoc, append-nil}
use Rattle.std.proofs.lemmas.Bool.Decides.{nat_tests}
use Rattle.pgp_ids.specs.declared.entry.Entry.{Entry}
use Rattle.pgp_lines.specs.declared.command.format.Format.{Format}
use Rattle.pgp_core.specs.Answer.{long_text}
use Rattle.pgp_core.specs.Answerer.{MayAnswerBy}
use Rattle.pgp_core.specs.Lines.{is_blank}
use Rattle.pgp_core.specs.Script.{Answers, MayMeet, MayMeetEach, answer, answers, log_past, logs, longest_line, want_text}
use Rattle.pgp_core.specs.WrittenFor.{IsWrittenFor, PutsLine, AreWrittenFor}
use Rattle.pgp_core.specs.declared.want.Want.{Want}
use Rattle.pgp_core.proofs.ScriptLemmas.{answers-cons}

pub by-itself : (alone : Bool) (log : List Entry) → MayAnswerBy alone log log
by-itself true log = refl
by-itself false log = (record { rest = []; whole = sym (append-nil log) }, λ legal. legal)

-- a line that was out of memory has its constant text
pub written-want : (alone : Bool) (format : Format) (before after : List Entry) (line old new : List ℕ) (want : Want) → MayMeet format (Some want) line → MayAnswerBy alone before after → new ≡ old
    → PutsLine alone format before after line old new (want_text want ++ 10 ∷ [])
written-want alone format before after line old new want meets may same = record {
  text = want_text want ++ 10 ∷ [];
  told = record { by = after; may = may; met = Some want; meets = meets; text_is = refl; log_is = refl };
  whole = ap (λ l. l ++ (want_text want ++ 10 ∷ [])) same;
}

-- a line that is too long has its constant text
pub written-long : (alone : Bool) (format : Format) (before after : List Entry) (line old new : List ℕ) → (is_blank line ≡ false) × (longest_line < length line) → MayAnswerBy alone before after → new ≡ old
    → PutsLine alone format before after line old new (long_text ++ 10 ∷ [])
written-long alone format before after line old new is may same =
    let long : nat_lt longest_line (length line) ≡ true = let more : longest_line < length line = is.1 in grind (arith, nat_tests) in
    record {
      text = long_text ++ 10 ∷ [];
      told = record { by = after; may = may; met = None; meets = tt; text_is = rw (is.0, long) refl; log_is = rw (is.0, long) refl };
      whole = ap (λ l. l ++ (long_text ++ 10 ∷ [])) same;
    }

pub written-push : (alone : Bool) (format : Format) (before mid after : List Entry) (lines : List (List ℕ)) (line out text : List ℕ)
    → AreWrittenFor alone format before lines mid out → IsWrittenFor alone format mid after line text → AreWrittenFor alone format before (lines ++ line ∷ []) after (out ++ text)
written-push alone format before mid after [] line out text told last =
    (record { log = after; first = text; others = [] }, (subst (λ l. IsWrittenFor alone format l after line text) told.0 last, (refl, refl), ap (λ l. l ++ text) told.1 ∙ sym (append-nil text)))
written-push alone format before mid after (first ∷ lines) line out text told last =
    let turn = told.0 in (
      record { log = turn.log; first = turn.first; others = turn.others ++ text },
      (
        told.1.0,
        written-push alone format turn.log mid after lines line turn.others text told.1.1 last,
        ap (λ l. l ++ text) told.1.2 ∙ append_assoc turn.first turn.others text,
      ),
    )

-- ---- where nobody else adds to the log

-- what is written for lines is their answers
pub answers-written : (format : Format) (before after : List Entry) (lines : List (List ℕ)) (out : List ℕ) → AreWrittenFor true format before lines after out → Answers format before after lines out
answers-written format before after [] out told = record { met = []; each = refl; may = tt; text = told.1; log = told.0 }
answers-written format before after (line ∷ lines) out told =
    let turn = told.0 in
    let head : IsWrittenFor true format before turn.log line turn.first = told.1.0 in
    let rest = answers-written format turn.log after lines turn.others told.1.1 in
    let first : turn.first ≡ answer format before head.met line = head.text_is ∙ ap (λ l. answer format l head.met line) head.may in
    let later : turn.log ≡ log_past format before head.met line = head.log_is ∙ ap (λ l. log_past format l head.met line) head.may in
    record {
      met = head.met ∷ rest.met;
      each = ap suc rest.each;
      may = (head.meets, rest.may);
      text = told.1.2 ∙ ap₂ (λ (a b : List ℕ). a ++ b) first (rest.text ∙ ap (λ l. answers format l rest.met lines) later) ∙ sym (answers-cons format before head.met rest.met line lines);
      log = rest.log ∙ ap (λ l. logs format l rest.met lines) later;
    }

-- their answers are what is written for them
pub written-answers : (format : Format) (before : List Entry) (met : List (Option Want)) (lines : List (List ℕ)) → length met ≡ length lines → MayMeetEach format met lines
    → AreWrittenFor true format before lines (logs format before met lines) (answers format before met lines)
written-answers format before [] [] each may = (refl, refl)
written-answers format before [] (line ∷ lines) each may = absurd (omega arith)
written-answers format before (m ∷ met) [] each may = absurd may
written-answers format before (m ∷ met) (line ∷ lines) each may =
    let tails : length met ≡ length lines = omega arith in
    let past = log_past format before m line in (
      record { log = past; first = answer format before m line; others = answers format past met lines },
      (
        record { by = before; may = refl; met = m; meets = may.0; text_is = refl; log_is = refl },
        written-answers format past met lines tails may.1,
        answers-cons format before m met line lines,
      ),
    )
