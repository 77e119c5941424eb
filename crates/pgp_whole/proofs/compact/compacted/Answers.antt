use Rattle.std.proofs.Common.{◌≡◌, ℕ, List, [], Bool, length, map, sym, ap, ap₂, ◌∙◌}
use Rattle.std.specs.Prelude.{count_by}
use Rattle.std.proofs.lemmas.List.{length-map}
use Rattle.pgp_ids.specs.declared.entry.Entry.{Entry}
use Rattle.pgp_core.specs.Added.{EntryLine, entries_of_lines, entry_lines}
use Rattle.pgp_core.specs.Lines.{lines_of}
use Rattle.pgp_compact.specs.Compacted.{are_needed_in, is_needed}
use Rattle.pgp_compact.specs.Needed.{chosen}
use Rattle.pgp_compact.proofs.NeededLemmas.{are_needed-length}
use Rattle.pgp_whole.specs.Remaining.{bare, remaining, text_of_lines}
use Rattle.pgp_whole.proofs.Needed.{chosen-map, count-needed, needed-map}
use Rattle.pgp_whole.proofs.Reading.{all-read}
use Rattle.pgp_whole.proofs.compact.compacted.Goals as goal

pub text_of-requires : goal.text_of-requires
text_of-requires c =
    let made : List EntryLine = entry_lines c.args.format [] (lines_of c.args.script.now) in
    let read = all-read c.args.format (lines_of c.args.script.now) c.in_ok-read.read c.in_ok-read.ensures in
    let choices : c.in_ok-needed.needed.items ≡ are_needed_in (entries_of_lines made) = c.in_ok-needed.ensures ∙ ap are_needed_in (c.entries.ensures.entries ∙ read.0) in
    ap length (c.as_slice-choices.ensures.value ∙ choices) ∙ are_needed-length (is_needed (entries_of_lines made)) (entries_of_lines made) ∙ length-map made (λ (it : EntryLine). it.entry)
    ∙ sym (ap (λ (l : List (List ℕ)). length l) read.1 ∙ length-map made (λ (it : EntryLine). it.line))
    ∙ length-map c.in_ok-read.read.lines.items (λ line. line.now) ∙ sym (ap length c.as_slice.ensures.value)

pub returns-clause-text : goal.returns-clause-text
returns-clause-text c =
    let made : List EntryLine = entry_lines c.args.format [] (lines_of c.args.script.now) in
    let read = all-read c.args.format (lines_of c.args.script.now) c.in_ok-read.read c.in_ok-read.ensures in
    let choices : c.in_ok-needed.needed.items ≡ are_needed_in (entries_of_lines made) = c.in_ok-needed.ensures ∙ ap are_needed_in (c.entries.ensures.entries ∙ read.0) in
    let lines : map (λ line. line.now) c.as_slice.result.now ≡ bare made = ap (map (λ line. line.now)) c.as_slice.ensures.value ∙ read.1 in
    c.in_ok-text.ensures
    ∙ ap₂ (λ (b : List Bool) (l : List (List ℕ)). text_of_lines (chosen b l)) (c.as_slice-choices.ensures.value ∙ choices) lines
    ∙ ap text_of_lines (chosen-map (λ (it : EntryLine). it.entry) (λ (it : EntryLine). it.line) (is_needed (entries_of_lines made)) made)

pub returns-clause-counts : goal.returns-clause-counts
returns-clause-counts c =
    let made : List EntryLine = entry_lines c.args.format [] (lines_of c.args.script.now) in
    let read = all-read c.args.format (lines_of c.args.script.now) c.in_ok-read.read c.in_ok-read.ensures in
    let choices : c.in_ok-needed.needed.items ≡ are_needed_in (entries_of_lines made) = c.in_ok-needed.ensures ∙ ap are_needed_in (c.entries.ensures.entries ∙ read.0) in record {
      entries = ap (λ (l : List Bool). length l) (c.as_slice-choices.ensures.value ∙ choices) ∙ are_needed-length (is_needed (entries_of_lines made)) (entries_of_lines made) ∙ length-map made (λ (it : EntryLine). it.entry);
      kept = c.count_chosen.ensures ∙ ap (λ (l : List Bool). count_by (λ choice. choice) l) (c.as_slice-choices.ensures.value ∙ choices)
          ∙ count-needed (is_needed (entries_of_lines made)) (entries_of_lines made)
          ∙ ap (λ (l : List Entry). length l) (sym (needed-map (λ (it : EntryLine). it.entry) (is_needed (entries_of_lines made)) made))
          ∙ length-map (remaining made) (λ (it : EntryLine). it.entry) ∙ sym (length-map (remaining made) (λ (it : EntryLine). it.line));
    }
