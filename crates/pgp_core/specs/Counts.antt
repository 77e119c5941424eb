-- How many entries of each kind a log has.
use Rattle.std.specs.Prelude.{◌+◌, ◌≤◌, List, Bool, true, false, count_by}
use Rattle.pgp_ids.specs.declared.entry.Entry.{Entry}
use Rattle.pgp_ids.specs.declared.entry.Entry.TheVariants as entry
use Rattle.pgp_core.specs.declared.counts.EntryCounts.{EntryCounts}

abbrev pub is_inc : Entry → Bool
is_inc (entry.Inc inc) = true
is_inc (entry.Info info) = false
is_inc (entry.Entries report) = false
is_inc entry.Close = false

abbrev pub is_info : Entry → Bool
is_info (entry.Inc inc) = false
is_info (entry.Info info) = true
is_info (entry.Entries report) = false
is_info entry.Close = false

-- the entry is a part of a member's log
abbrev pub is_report : Entry → Bool
is_report (entry.Inc inc) = false
is_report (entry.Info info) = false
is_report (entry.Entries report) = true
is_report entry.Close = false

abbrev pub counts_of : List Entry → EntryCounts
counts_of log = record { incrementals = count_by is_inc log; infos = count_by is_info log; parts = count_by is_report log }

-- the counts with one entry more
abbrev pub counts_with : EntryCounts → Entry → EntryCounts
counts_with counts (entry.Inc inc) = record counts { incrementals = counts.incrementals + 1 }
counts_with counts (entry.Info info) = record counts { infos = counts.infos + 1 }
counts_with counts (entry.Entries report) = record counts { parts = counts.parts + 1 }
counts_with counts entry.Close = counts

-- no legal log has more
pub record AreFew (counts : EntryCounts) : Type 0 where
  pub incrementals : counts.incrementals ≤ 65536
  pub infos : counts.infos ≤ 65536
  pub parts : counts.parts ≤ 65536
