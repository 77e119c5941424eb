-- What a line that adds an entry is, and the log that the lines of a script make.
use Rattle.std.proofs.Common.{◌≡◌, ℕ, List, [], ◌∷◌, ◌++◌, Bool, true, false, Option, Some, None, Result, Ok, Err, length, map, nat_lt, refl, sym, ap, ◌∙◌, append_assoc, append-nil, inl, inr}
use Rattle.std.proofs.lemmas.Bool.{cases_Bool}
use Rattle.pgp_ids.specs.declared.entry.Entry.{Entry}
use Rattle.pgp_ids.specs.declared.refusal.Refusal.{Refusal}
use Rattle.pgp_lines.specs.Command.{command_of}
use Rattle.pgp_lines.specs.LineFault.{LineFault}
use Rattle.pgp_lines.specs.declared.command.Command.{Command}
use Rattle.pgp_lines.specs.declared.command.Command.TheVariants.{Submit, Ask, Locate, Trace}
use Rattle.pgp_lines.specs.declared.command.format.Format.{Format}
use Rattle.pgp_log.specs.Fits.{fits}
use Rattle.pgp_log.specs.Log.{is_legal}
use Rattle.pgp_log.proofs.LogLemmas.{legal-snoc}
use Rattle.pgp_core.specs.Added.{EntryLine, added_by, entries_of_lines, entry_line, entry_lines, taken_of_read, taken_from, with_added}
use Rattle.pgp_core.specs.Answer.{log_after_read, log_with}
use Rattle.pgp_core.specs.Lines.{is_blank}
use Rattle.pgp_core.specs.Answerer.{MayAnswerBy}
use Rattle.pgp_core.specs.Script.{log_past, logs, longest_line}
use Rattle.pgp_core.specs.WrittenFor.{AreWrittenFor, IsWrittenFor}
use Rattle.pgp_core.specs.declared.want.Want.{Want}

-- ---- one line

-- the line was read as the entry, which fits
pub record IsAdding (format : Format) (log : List Entry) (line : List ℕ) (entry : Entry) : Type 0 where
  pub some : is_blank line ≡ false
  pub short : nat_lt longest_line (length line) ≡ false
  pub reads : command_of format line ≡ Ok (Submit entry)
  pub fit : fits log entry ≡ None

taken-fits : (log : List Entry) (entry : Entry) (why : Option Refusal) (taken : Entry) → fits log entry ≡ why
    → taken_from log (Submit entry) ≡ Some taken → (entry ≡ taken) × (fits log taken ≡ None)
taken-fits log entry None taken fit is =
    let some : Some entry ≡ Some taken = rw fit at is in
    let same : entry ≡ taken = cc in (same, ap (fits log) (sym same) ∙ fit)
taken-fits log entry (Some refusal) taken fit is = let none : Some taken ≡ None = sym is ∙ rw fit refl in absurd cc

taken-reads : (log : List Entry) (read : Result Command LineFault) (taken : Entry) → taken_of_read log read ≡ Some taken
    → (read ≡ Ok (Submit taken)) × (fits log taken ≡ None)
taken-reads log (Ok (Submit entry)) taken is =
    let facts = taken-fits log entry (fits log entry) taken refl is in (ap (λ e. Ok (Submit e)) facts.0, facts.1)
taken-reads log (Ok (Ask pg)) taken is = absurd cc
taken-reads log (Ok (Locate pool name)) taken is = absurd cc
taken-reads log (Ok (Trace code epochs)) taken is = absurd cc
taken-reads log (Err fault) taken is = absurd cc

pub adding : (format : Format) (log : List Entry) (line : List ℕ) (entry : Entry) → added_by format log line ≡ Some entry → IsAdding format log line entry
adding format log line entry is = elim (cases_Bool (is_blank line)) [
  | inl blank ↦ let none : None ≡ Some entry = rw blank at is in absurd cc
  | inr some ↦ elim (cases_Bool (nat_lt longest_line (length line))) [
    | inl long ↦ let none : None ≡ Some entry = rw (some, long) at is in absurd cc
    | inr short ↦
        let facts = taken-reads log (command_of format line) entry (rw (some, short) at is) in
        record { some = some; short = short; reads = facts.0; fit = facts.1 }
  ]
]

-- ---- the lines of a script

-- after one line: what it adds, and what the others add to the log then
pub lines-cases : (format : Format) (P : List EntryLine → Type 0) (log : List Entry) (line : List ℕ) (lines : List (List ℕ)) → (added_by format log line ≡ None → P (entry_lines format log lines))
    → ((entry : Entry) → added_by format log line ≡ Some entry → P (entry_line line entry ∷ entry_lines format (log ++ entry ∷ []) lines)) → P (entry_lines format log (line ∷ lines))
lines-cases format P log line lines none some = go (added_by format log line) refl where
  go : (added : Option Entry) → added_by format log line ≡ added → P (entry_lines format log (line ∷ lines))
  go None is = rw is (none is)
  go (Some entry) is = rw is (some entry is)

-- the log with what the lines add, past the first of them
pub past-line : (format : Format) (log : List Entry) (line : List ℕ) (lines : List (List ℕ))
    → log ++ entries_of_lines (entry_lines format log (line ∷ lines)) ≡ with_added log (added_by format log line) ++ entries_of_lines (entry_lines format (with_added log (added_by format log line)) lines)
past-line format log line lines =
    let past : List Entry → List Entry = λ l. l ++ entries_of_lines (entry_lines format l lines) in
    let P : List EntryLine → Type 0 = λ l. log ++ entries_of_lines l ≡ past (with_added log (added_by format log line)) in
    lines-cases format P log line lines (λ none. ap (λ added. past (with_added log added)) (sym none))
    (λ entry adds. sym (append_assoc log (entry ∷ []) (entries_of_lines (entry_lines format (log ++ entry ∷ []) lines)))
    ∙ ap (λ added. past (with_added log added)) (sym adds))

-- the log that they make is legal
pub lines-legal : (format : Format) (log : List Entry) (lines : List (List ℕ)) → is_legal log ≡ true → is_legal (log ++ entries_of_lines (entry_lines format log lines)) ≡ true
lines-legal format log [] legal = ap is_legal (append-nil log) ∙ legal
lines-legal format log (line ∷ lines) legal =
    let P : List EntryLine → Type 0 = λ l. is_legal (log ++ entries_of_lines l) ≡ true in
    lines-cases format P log line lines (λ none. lines-legal format log lines legal)
    (λ entry adds.
    let grown = log ++ entry ∷ [] in
    ap is_legal (sym (append_assoc log (entry ∷ []) (entries_of_lines (entry_lines format grown lines))))
    ∙ lines-legal format grown lines (legal-snoc log entry legal (adding format log line entry adds).fit))

taken-past : (log : List Entry) (entry : Entry) (why : Option Refusal) → fits log entry ≡ why → with_added log (taken_from log (Submit entry)) ≡ log_with log entry why
taken-past log entry None fit = rw fit refl
taken-past log entry (Some refusal) fit = rw fit refl

read-past : (log : List Entry) (read : Result Command LineFault) → with_added log (taken_of_read log read) ≡ log_after_read log read
read-past log (Ok (Submit entry)) = taken-past log entry (fits log entry) refl
read-past log (Ok (Ask pg)) = refl
read-past log (Ok (Locate pool name)) = refl
read-past log (Ok (Trace code epochs)) = refl
read-past log (Err fault) = refl

-- a line that isn't out of memory adds its entry
added-past : (format : Format) (log : List Entry) (line : List ℕ) → log_past format log None line ≡ with_added log (added_by format log line)
added-past format log line = elim (cases_Bool (is_blank line)) [
  | inl blank ↦ rw blank refl
  | inr some ↦ elim (cases_Bool (nat_lt longest_line (length line))) [
    | inl long ↦ rw (some, long) refl
    | inr short ↦ rw (some, short) (sym (read-past log (command_of format line)))
  ]
]

abbrev no_wants : List (List ℕ) → List (Option Want)
no_wants lines = map (λ line. None) lines

-- lines of which none is out of memory make this log
pub lines-made : (format : Format) (log : List Entry) (lines : List (List ℕ)) → logs format log (no_wants lines) lines ≡ log ++ entries_of_lines (entry_lines format log lines)
lines-made format log [] = sym (append-nil log)
lines-made format log (line ∷ lines) =
    let P : List EntryLine → Type 0 = λ l. logs format (log_past format log None line) (no_wants lines) lines ≡ log ++ entries_of_lines l in
    let after : (added : Option Entry) → added_by format log line ≡ added → logs format (log_past format log None line) (no_wants lines) lines ≡ logs format (with_added log added) (no_wants lines) lines =
    λ added is. ap (λ l. logs format l (no_wants lines) lines) (added-past format log line ∙ ap (with_added log) is) in
    lines-cases format P log line lines (λ none. after None none ∙ lines-made format log lines)
    (λ entry adds. after (Some entry) adds ∙ lines-made format (log ++ entry ∷ []) lines ∙ append_assoc log (entry ∷ []) (entries_of_lines (entry_lines format (log ++ entry ∷ []) lines)))

-- ---- whoever answers

past-legal : (format : Format) (log : List Entry) (met : Option Want) (line : List ℕ) → is_legal log ≡ true → is_legal (log_past format log met line) ≡ true
past-legal format log (Some want) line legal = legal
past-legal format log None line legal = ap is_legal (added-past format log line) ∙ go (added_by format log line) refl where
  go : (added : Option Entry) → added_by format log line ≡ added → is_legal (with_added log added) ≡ true
  go None is = legal
  go (Some entry) is = legal-snoc log entry legal (adding format log line entry is).fit

pub answered-legal : (alone : Bool) (before by : List Entry) → MayAnswerBy alone before by → is_legal before ≡ true → is_legal by ≡ true
answered-legal true before by may legal = ap is_legal may ∙ legal
answered-legal false before by may legal = may.1 legal

-- lines that are answered make a legal log of a legal one
pub written-legal : (alone : Bool) (format : Format) (before after : List Entry) (lines : List (List ℕ)) (text : List ℕ) → AreWrittenFor alone format before lines after text
    → is_legal before ≡ true → is_legal after ≡ true
written-legal alone format before after [] text written legal = ap is_legal written.0 ∙ legal
written-legal alone format before after (line ∷ lines) text written legal =
    let turn = written.0 in
    let first : IsWrittenFor alone format before turn.log line turn.first = written.1.0 in
    let past : is_legal turn.log ≡ true = ap is_legal first.log_is ∙ past-legal format first.by first.met line (answered-legal alone before first.by first.may legal) in
    written-legal alone format turn.log after lines turn.others written.1.1 past
