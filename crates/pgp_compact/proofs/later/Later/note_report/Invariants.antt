use Rattle.pgp_compact.proofs.Common.{IsGreatestOf, List, Number, is_same_number, map, take, written, ℕ, ◌++◌, ◌≡◌}
use Rattle.pgp_compact.proofs.later.Later.note_report.Given as goal

abbrev pub invariant-loop-entry : goal.invariant-loop-entry
invariant-loop-entry l = record {
  senders : l.self.senders ≡ l.fn.self.senders;
  starts : l.self.starts ≡ l.fn.self.starts;
  cleans : l.self.cleans ≡ l.fn.self.cleans;
  all_cleans : l.self.all_cleans ≡ l.fn.self.all_cleans;
  numbers : (rest : List (Number × ℕ)) → IsGreatestOf is_same_number rest l.fn.self.numbers.table
      → IsGreatestOf is_same_number (map (written l.report) (take l.entry-index l.entry-items) ++ rest) l.self.numbers.table;
}
