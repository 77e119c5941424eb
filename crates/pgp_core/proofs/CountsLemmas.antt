-- The counts of a log's entries, as the log grows.
use Rattle.std.proofs.Common.{◌≡◌, ◌+◌, ◌≤◌, List, [], ◌∷◌, ◌++◌, Bool, length, cond, add-zero, le_trans, ◌∙◌}
use Rattle.std.specs.List.{count_by}
use Rattle.std.proofs.lemmas.List.Sums.{count_by-le-length, sum_by-append}
use Rattle.pgp_ids.specs.declared.entry.Entry.{Entry}
use Rattle.pgp_ids.specs.declared.entry.Entry.TheVariants as entry
use Rattle.pgp_core.specs.Counts.{AreFew, counts_of, counts_with, is_inc, is_info, is_report}

count-next : (p : Entry → Bool) (log : List Entry) (new : Entry) → count_by p (log ++ new ∷ []) ≡ count_by p log + count_by p (new ∷ [])
count-next p log new = sum_by-append (λ it. cond (p it) 1 0) log (new ∷ [])

pub counts-next : (log : List Entry) (new : Entry) → counts_of (log ++ new ∷ []) ≡ counts_with (counts_of log) new
counts-next log (entry.Inc inc) =
    let new = entry.Inc inc in
    let incs : count_by is_inc (log ++ new ∷ []) ≡ count_by is_inc log + 1 = count-next is_inc log new in
    let infos : count_by is_info (log ++ new ∷ []) ≡ count_by is_info log = count-next is_info log new ∙ add-zero (count_by is_info log) in
    let parts : count_by is_report (log ++ new ∷ []) ≡ count_by is_report log = count-next is_report log new ∙ add-zero (count_by is_report log) in
    cc
counts-next log (entry.Info info) =
    let new = entry.Info info in
    let incs : count_by is_inc (log ++ new ∷ []) ≡ count_by is_inc log = count-next is_inc log new ∙ add-zero (count_by is_inc log) in
    let infos : count_by is_info (log ++ new ∷ []) ≡ count_by is_info log + 1 = count-next is_info log new in
    let parts : count_by is_report (log ++ new ∷ []) ≡ count_by is_report log = count-next is_report log new ∙ add-zero (count_by is_report log) in
    cc
counts-next log (entry.Entries report) =
    let new = entry.Entries report in
    let incs : count_by is_inc (log ++ new ∷ []) ≡ count_by is_inc log = count-next is_inc log new ∙ add-zero (count_by is_inc log) in
    let infos : count_by is_info (log ++ new ∷ []) ≡ count_by is_info log = count-next is_info log new ∙ add-zero (count_by is_info log) in
    let parts : count_by is_report (log ++ new ∷ []) ≡ count_by is_report log + 1 = count-next is_report log new in
    cc
counts-next log entry.Close =
    let incs : count_by is_inc (log ++ entry.Close ∷ []) ≡ count_by is_inc log = count-next is_inc log entry.Close ∙ add-zero (count_by is_inc log) in
    let infos : count_by is_info (log ++ entry.Close ∷ []) ≡ count_by is_info log = count-next is_info log entry.Close ∙ add-zero (count_by is_info log) in
    let parts : count_by is_report (log ++ entry.Close ∷ []) ≡ count_by is_report log = count-next is_report log entry.Close ∙ add-zero (count_by is_report log) in
    cc

pub are-few : (log : List Entry) → length log ≤ 65536 → AreFew (counts_of log)
are-few log short = record {
  incrementals = le_trans (count_by-le-length is_inc log) short;
  infos = le_trans (count_by-le-length is_info log) short;
  parts = le_trans (count_by-le-length is_report log) short;
}
