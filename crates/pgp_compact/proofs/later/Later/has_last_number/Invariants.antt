use Rattle.pgp_compact.proofs.Common.{Entry, IsLater, List, false, list_any, not, replaces_number, reports_in, take, ◌≡◌}
use Rattle.pgp_compact.proofs.later.Later.has_last_number.Given as goal

abbrev pub invariant-loop-entry : goal.invariant-loop-entry
invariant-loop-entry l =
    (log later : List Entry) → IsLater log later l.self
    → list_any (λ entry. not (list_any (replaces_number l.report entry.version.v) (reports_in l.report.pg later))) (take l.entry-index l.entry-items) ≡ false
