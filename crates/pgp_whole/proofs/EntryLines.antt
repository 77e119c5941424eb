-- The lines that add an entry, and what is read of them anew.
use Rattle.std.proofs.Common.{◌≡◌, ℕ, List, [], ◌∷◌, ◌++◌, Bool, true, false, Some, None, Ok, length, nat_lt, refl, ap, ◌∙◌, append_assoc, inl, inr}
use Rattle.std.proofs.lemmas.Bool.{cases_Bool}
use Rattle.pgp_ids.specs.declared.entry.Entry.{Entry}
use Rattle.pgp_lines.specs.Command.{command_of}
use Rattle.pgp_lines.specs.declared.command.Command.TheVariants.{Submit}
use Rattle.pgp_lines.specs.declared.command.format.Format.{Format}
use Rattle.pgp_log.specs.Fits.{fits}
use Rattle.pgp_log.specs.Log.{is_legal}
use Rattle.pgp_log.proofs.LogLemmas.{front-legal, legal-last}
use Rattle.pgp_core.specs.Added.{EntryLine, added_by, entries_of_lines, entry_lines}
use Rattle.pgp_core.specs.Lines.{is_blank}
use Rattle.pgp_core.specs.Script.{longest_line}
use Rattle.pgp_core.proofs.AddedLemmas.{IsAdding, adding, lines-cases}
use Rattle.pgp_compact.specs.Needed.{needed_of}
use Rattle.pgp_whole.specs.Remaining.{bare}
use Rattle.pgp_whole.proofs.Lines.{AreOneLine, IsOneLine}

-- the line is read as the entry, whatever log takes it
pub record IsRead (format : Format) (it : EntryLine) : Type 0 where
  pub one : IsOneLine it.line
  pub some : is_blank it.line ≡ false
  pub short : nat_lt longest_line (length it.line) ≡ false
  pub reads : command_of format it.line ≡ Ok (Submit it.entry)

abbrev pub AreRead : Format → List EntryLine → Type 0
AreRead format [] = Unit {0}
AreRead format (it ∷ lines) = IsRead format it × AreRead format lines

-- ---- the lines of a script

pub entries-read : (format : Format) (log : List Entry) (lines : List (List ℕ)) → AreOneLine lines → AreRead format (entry_lines format log lines)
entries-read format log [] one = tt
entries-read format log (line ∷ lines) one =
    lines-cases format (AreRead format) log line lines (λ none. entries-read format log lines one.1)
    (λ entry adds.
    let is : IsAdding format log line entry = adding format log line entry adds in
    (record { one = one.0; some = is.some; short = is.short; reads = is.reads }, entries-read format (log ++ entry ∷ []) lines one.1))

pub needed-read : (format : Format) (test : List EntryLine → EntryLine → Bool) (lines : List EntryLine) → AreRead format lines → AreRead format (needed_of test lines)
needed-read format test [] each = tt
needed-read format test (it ∷ lines) each = elim (cases_Bool (test lines it)) [
  | inl needed ↦ rw needed (each.0, needed-read format test lines each.1)
  | inr other ↦ rw other (needed-read format test lines each.1)
]

pub bare-one : (format : Format) (lines : List EntryLine) → AreRead format lines → AreOneLine (bare lines)
bare-one format [] each = tt
bare-one format (it ∷ lines) each = (each.0.one, bare-one format lines each.1)

-- ---- read anew

-- lines whose entries are a legal log add them all
pub read-again : (format : Format) (log : List Entry) (lines : List EntryLine) → AreRead format lines → is_legal (log ++ entries_of_lines lines) ≡ true → entry_lines format log (bare lines) ≡ lines
read-again format log [] each legal = refl
read-again format log (it ∷ lines) each legal =
    let grown : is_legal ((log ++ it.entry ∷ []) ++ entries_of_lines lines) ≡ true = ap is_legal (append_assoc log (it.entry ∷ []) (entries_of_lines lines)) ∙ legal in
    let fit : fits log it.entry ≡ None = legal-last log it.entry (front-legal (log ++ it.entry ∷ []) (entries_of_lines lines) grown) in
    let adds : added_by format log it.line ≡ Some it.entry = rw (each.0.some, each.0.short, each.0.reads, fit) refl in
    rw adds (ap (λ (l : List EntryLine). it ∷ l) (read-again format (log ++ it.entry ∷ []) lines each.1 grown))
