-- What is kept of the reports that come later, while a log is compacted from its end to its beginning.
use Rattle.std.specs.Prelude.{ℕ, List, [], ◌∷◌, Bool, ◌&&◌, nat_eq, map, flat_map, option_and_then}
use Rattle.std.specs.HashMap.{HashMap}
use Rattle.std.specs.Option.{option_map_or}
use Rattle.pgp_ids.specs.declared.entry.Entry.{Entry}
use Rattle.pgp_ids.specs.declared.log_entry.LogEntry.{LogEntry}
use Rattle.pgp_ids.specs.declared.pg_id.PgId.{PgId}
use Rattle.pgp_ids.specs.declared.report.Info.{Info}
use Rattle.pgp_ids.specs.declared.report.Report.{Report}
use Rattle.pgp_map.specs.Pools.{is_same_group}
use Rattle.pgp_group.specs.Entries.{infos_of, reports_of}
use Rattle.pgp_group.specs.GroupLog.{group_in}
use Rattle.pgp_compact.specs.kept.Greatest.{IsGreatestOf}
use Rattle.pgp_compact.specs.kept.Standing.{opening_in}
use Rattle.pgp_compact.specs.declared.later.Sender.{Sender}
use Rattle.pgp_compact.specs.declared.later.Opening.{Opening}
use Rattle.pgp_compact.specs.declared.later.Number.{Number}
use Rattle.pgp_compact.specs.declared.later.Later.{Later}

-- ---- the keys

abbrev pub is_same_sender : Sender → Sender → Bool
is_same_sender a b = is_same_group a.pg b.pg && (nat_eq a.osd b.osd && nat_eq a.slot b.slot)

abbrev pub is_same_opening : Opening → Opening → Bool
is_same_opening a b = is_same_group a.pg b.pg && nat_eq a.first b.first

abbrev pub is_same_number : Number → Number → Bool
is_same_number a b = is_same_group a.pg b.pg && (nat_eq a.osd b.osd && (nat_eq a.slot b.slot && nat_eq a.v b.v))

-- ---- what a report is noted by

abbrev pub sender_of : Info → Sender
sender_of info = record { pg = info.pg; osd = info.member.osd; slot = info.member.slot }

abbrev pub sent : Info → Sender × ℕ
sent info = (sender_of info, info.stamp)

abbrev pub told_opening : Info → PgId × ℕ
told_opening info = (info.pg, info.history_les)

abbrev pub opening_at : PgId → ℕ → Opening
opening_at pg first = record { pg = pg; first = first }

-- the interval of the info's last_epoch_clean, by the whole log, where clean epochs of it can matter
abbrev pub clean_in : List Entry → Info → List (Opening × ℕ)
clean_in log info =
    option_map_or (λ first. (opening_at info.pg first, info.last_epoch_clean) ∷ [])
    (option_and_then (λ g. opening_in g info.last_epoch_clean) (group_in log info.pg)) []

-- of all intervals of all groups in which these infos tell of clean epochs that can matter, the last such epoch is kept
abbrev pub AreLastCleans : {S : Type 0} → List Entry → List Entry → HashMap Opening ℕ S → Type 0
AreLastCleans log entries table = IsGreatestOf is_same_opening (flat_map (clean_in log) (infos_of entries)) table

abbrev pub write_number : Report → ℕ → Number
write_number report v = record { pg = report.pg; osd = report.member.osd; slot = report.member.slot; v = v }

abbrev pub written : Report → LogEntry → Number × ℕ
written report entry = (write_number report entry.version.v, report.stamp)

abbrev pub numbers : Report → List (Number × ℕ)
numbers report = map (written report) report.log

-- ---- what is kept

-- the greatest stamp of the infos of each member, the greatest history_les of those of each group, the last clean epoch in each
-- interval by those that come later and by those of the whole log, and the greatest stamp of the reports with an entry of each
-- number of each member
pub record IsLater (log later : List Entry) (kept : Later) : Type 0 where
  pub senders : IsGreatestOf is_same_sender (map sent (infos_of later)) kept.senders.table
  pub starts : IsGreatestOf is_same_group (map told_opening (infos_of later)) kept.starts.table
  pub cleans : AreLastCleans log later kept.cleans.table
  pub all_cleans : AreLastCleans log log kept.all_cleans.table
  pub numbers : IsGreatestOf is_same_number (flat_map numbers (reports_of later)) kept.numbers.table
