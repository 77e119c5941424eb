-- A log without reports that no answer needs any more, whatever entries follow (this project's own choice). The others stay;
-- whether some answer needs each of them isn't said. Which reports count later is Ceph's: a report of an older interval, or of a
-- device that wasn't up all the time since, doesn't (its developer documentation on peering).
use Rattle.std.specs.Prelude.{ℕ, ◌+◌, List, [], ◌∷◌, ◌++◌, Bool, true, not, ◌&&◌, ◌||◌, nat_lt, nat_le, map, filter}
use Rattle.std.specs.List.{list_any}
use Rattle.std.specs.Option.{option_map_or}
use Rattle.pgp_code.specs.AnyCode.{enough_of, is_by_place}
use Rattle.pgp_code.specs.declared.any.AnyCode.{AnyCode}
use Rattle.pgp_ids.specs.Member.{is_same_member}
use Rattle.pgp_ids.specs.declared.entry.Entry.{Entry}
use Rattle.pgp_ids.specs.declared.entry.Entry.TheVariants as entry
use Rattle.pgp_ids.specs.declared.past.Past.{Past}
use Rattle.pgp_ids.specs.declared.pg_id.PgId.{PgId}
use Rattle.pgp_ids.specs.declared.report.Info.{Info}
use Rattle.pgp_ids.specs.declared.report.Report.{Report}
use Rattle.pgp_interval.specs.History.{History, last_place}
use Rattle.pgp_interval.specs.ReadWrite.{can_write}
use Rattle.pgp_interval.specs.Runs.{current_first, past_intervals}
use Rattle.pgp_map.specs.Pools.{is_same_group}
use Rattle.pgp_missing.specs.Log.{has_number}
use Rattle.pgp_group.specs.Entries.{reports_of}
use Rattle.pgp_group.specs.GroupLog.{GroupLog, group_in, infos}
use Rattle.pgp_group.specs.Heard.{is_counted, les}
use Rattle.pgp_reasons.specs.Reported.{infos_in}
use Rattle.pgp_compact.specs.Needed.{are_needed, needed_of}
use Rattle.pgp_compact.specs.declared.course.Span.{Span}

-- ---- infos

-- an info of the same member, sent at its epoch or later
abbrev pub replaces : Info → Info → Bool
replaces info other = is_same_member other.member info.member && nat_le info.stamp other.stamp

-- it counts, and no later info replaces it; one of a lower stamp may stop to count before it does
abbrev pub may_be_heard : GroupLog → List Info → Info → Bool
may_be_heard g later info = is_counted g info.member info.stamp && not (list_any (replaces info) later)

-- an info with the same history_les, or a later one
abbrev pub starts_as_late : Info → Info → Bool
starts_as_late info other = nat_le info.history_les other.history_les

-- no info of the group has a greater history_les, no later one has the same, and it isn't 0
abbrev pub tells_last_start : GroupLog → List Info → Info → Bool
tells_last_start g later info =
    nat_lt 0 info.history_les && nat_le (les g) info.history_les && not (list_any (starts_as_late info) later)

-- ---- clean epochs

-- In a past interval, as the maps alone tell it, clean epochs can matter to a group that last began to serve in the epoch `les`:
-- its members could serve writes, and either no map records that they may have done so, or it may yet block the group.
abbrev pub wants_clean : AnyCode → ℕ → Past → Bool
wants_clean code les past = can_write (enough_of code) (is_by_place code) past.members && (not past.rw || nat_le les past.last)

abbrev pub span_of : Past → Span
span_of past = record { first = past.first; last = past.last }

-- the past intervals in which clean epochs can matter
abbrev pub past_spans : History AnyCode → ℕ → List Span
past_spans h les = map span_of (filter (wants_clean h.code les) (past_intervals enough_of is_by_place [] h))

-- the current interval, as far as it has come
abbrev pub current_span : History AnyCode → Span
current_span h = record { first = current_first h; last = h.first + last_place h }

-- the intervals in which clean epochs can matter: those past ones, and the current one, whatever may become of it
abbrev pub clean_spans : GroupLog → List Span
clean_spans g = past_spans g.history (les g) ++ current_span g.history ∷ []

abbrev pub is_in_span : ℕ → Span → Bool
is_in_span epoch span = nat_le span.first epoch && nat_le epoch span.last

-- by the info the group was clean in the interval, in this epoch of it or later
abbrev pub is_clean_from : Span → ℕ → Info → Bool
is_clean_from span epoch info = is_in_span info.last_epoch_clean span && nat_le epoch info.last_epoch_clean

-- it tells of the last clean epoch of the interval: no info of the group tells of a later one, and no later info of the same
abbrev pub tells_last_of : GroupLog → List Info → Info → Span → Bool
tells_last_of g later info span =
    is_in_span info.last_epoch_clean span
    && not (list_any (is_clean_from span (info.last_epoch_clean + 1)) (infos g))
    && not (list_any (is_clean_from span info.last_epoch_clean) later)

-- it does so of an interval in which clean epochs can matter
abbrev pub tells_last_clean : GroupLog → List Info → Info → Bool
tells_last_clean g later info = list_any (tells_last_of g later info) (clean_spans g)

-- the info stays, where these infos of the group come later
abbrev pub needs_info : GroupLog → List Info → Info → Bool
needs_info g later info = may_be_heard g later info || tells_last_start g later info || tells_last_clean g later info

-- ---- reports of log entries

-- a report of the same member, sent at its epoch or later, with an entry of this number
abbrev pub replaces_number : Report → ℕ → Report → Bool
replaces_number report v other =
    is_same_member other.member report.member && nat_le report.stamp other.stamp && has_number v other.log

-- the report stays, where these reports of the group come later: it counts, and has an entry of a number that none of them
-- replaces
abbrev pub needs_report : GroupLog → List Report → Report → Bool
needs_report g later report =
    is_counted g report.member report.stamp
    && list_any (λ entry. not (list_any (replaces_number report entry.version.v) later)) report.log

-- ---- the log

-- the group's reports of log entries among these entries
abbrev pub reports_in : PgId → List Entry → List Report
reports_in pg entries = filter (λ report. is_same_group report.pg pg) (reports_of entries)

-- the entry stays, where these entries of the log come after it
abbrev pub is_needed : List Entry → List Entry → Entry → Bool
is_needed log later (entry.Inc inc) = true
is_needed log later (entry.Info info) =
    option_map_or (λ g. needs_info g (infos_in info.pg later) info) (group_in log info.pg) true
is_needed log later (entry.Entries report) =
    option_map_or (λ g. needs_report g (reports_in report.pg later) report) (group_in log report.pg) true
is_needed log later entry.Close = true

-- the log with the entries alone that stay
abbrev pub compacted : List Entry → List Entry
compacted log = needed_of (is_needed log) log

-- of each entry of the log whether it is one of these
abbrev pub are_needed_in : List Entry → List Bool
are_needed_in log = are_needed (is_needed log) log
