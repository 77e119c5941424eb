-- What remains of a script makes the compacted log, and remains again.
use Rattle.std.proofs.Common.{◌≡◌, ℕ, List, [], true, length, refl, sym, ap, ◌∙◌}
use Rattle.std.proofs.lemmas.List.{length-map}
use Rattle.pgp_log.specs.Log.{is_legal}
use Rattle.pgp_lines.specs.declared.command.format.Format.{Format}
use Rattle.pgp_core.specs.Added.{EntryLine, entries_of_lines, entry_lines, log_of_lines}
use Rattle.pgp_core.specs.Lines.{lines_of}
use Rattle.pgp_core.proofs.AddedLemmas.{lines-legal}
use Rattle.pgp_compact.specs.Compacted.{compacted, is_needed}
use Rattle.pgp_compact.proofs.LegalLemmas.{compacted-legal}
use Rattle.pgp_compact.proofs.TwiceLemmas.{compacted-twice}
use Rattle.pgp_whole.specs.Remaining.{bare, compacted_text, remaining, remaining_lines, text_of_lines}
use Rattle.pgp_whole.proofs.EntryLines.{AreRead, bare-one, entries-read, needed-read, read-again}
use Rattle.pgp_whole.proofs.Lines.{lines-one, lines-written}
use Rattle.pgp_whole.proofs.Needed.{needed-all, needed-map}

abbrev pub made_of : Format → List ℕ → List EntryLine
made_of format script = entry_lines format [] (lines_of script)

pub remaining-entries : (lines : List EntryLine) → entries_of_lines (remaining lines) ≡ compacted (entries_of_lines lines)
remaining-entries lines = needed-map (λ (it : EntryLine). it.entry) (is_needed (entries_of_lines lines)) lines

remaining-read : (format : Format) (script : List ℕ) → AreRead format (remaining (made_of format script))
remaining-read format script =
    let lines = made_of format script in needed-read format (λ later it. is_needed (entries_of_lines lines) (entries_of_lines later) it.entry) lines (entries-read format [] (lines_of script) (lines-one script))

pub remain-lines : (format : Format) (script : List ℕ) → lines_of (compacted_text format script) ≡ remaining_lines format script
remain-lines format script = lines-written (remaining_lines format script) (bare-one format (remaining (made_of format script)) (remaining-read format script))

remaining-again : (format : Format) (script : List ℕ) → entry_lines format [] (remaining_lines format script) ≡ remaining (made_of format script)
remaining-again format script =
    let lines = made_of format script in
    let legal : is_legal (entries_of_lines (remaining lines)) ≡ true = ap is_legal (remaining-entries lines) ∙ (compacted-legal (entries_of_lines lines) (lines-legal format [] (lines_of script) refl)).0 in
    read-again format [] (remaining lines) (remaining-read format script) legal

pub remain-made : (format : Format) (script : List ℕ) → made_of format (compacted_text format script) ≡ remaining (made_of format script)
remain-made format script = ap (entry_lines format []) (remain-lines format script) ∙ remaining-again format script

pub remain-log : (format : Format) (script : List ℕ) → log_of_lines format (lines_of (compacted_text format script)) ≡ compacted (log_of_lines format (lines_of script))
remain-log format script = ap entries_of_lines (remain-made format script) ∙ remaining-entries (made_of format script)

pub remain-each : (format : Format) (script : List ℕ) → length (remaining_lines format script) ≡ length (log_of_lines format (remaining_lines format script))
remain-each format script =
    length-map (remaining (made_of format script)) (λ (it : EntryLine). it.line)
    ∙ sym (length-map (remaining (made_of format script)) (λ (it : EntryLine). it.entry))
    ∙ sym (ap (λ (l : List EntryLine). length (entries_of_lines l)) (remaining-again format script))

-- compacted once more
remaining-twice : (lines : List EntryLine) → remaining (remaining lines) ≡ remaining lines
remaining-twice lines =
    let kept = remaining lines in
    let counts : length (entries_of_lines (remaining kept)) ≡ length (entries_of_lines kept) =
    ap length (remaining-entries kept ∙ ap compacted (remaining-entries lines) ∙ compacted-twice (entries_of_lines lines) ∙ sym (remaining-entries lines)) in
    needed-all (λ later it. is_needed (entries_of_lines kept) (entries_of_lines later) it.entry) kept (sym (length-map (remaining kept) (λ (it : EntryLine). it.entry)) ∙ counts ∙ length-map kept (λ (it : EntryLine). it.entry))

pub remain-twice : (format : Format) (script : List ℕ) → compacted_text format (compacted_text format script) ≡ compacted_text format script
remain-twice format script = ap (λ (l : List EntryLine). text_of_lines (bare l)) (ap remaining (remain-made format script) ∙ remaining-twice (made_of format script))
