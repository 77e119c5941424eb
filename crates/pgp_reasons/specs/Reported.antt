-- What one entry of a log tells of a group.
use Rattle.std.specs.Prelude.{List, [], Option, Some, None, ◌&&◌, if◌then◌else◌, filter}
use Rattle.pgp_ids.specs.Member.{is_same_member}
use Rattle.pgp_ids.specs.declared.entry.Entry.{Entry}
use Rattle.pgp_ids.specs.declared.entry.Entry.TheVariants as entry
use Rattle.pgp_ids.specs.declared.log_entry.LogEntry.{LogEntry}
use Rattle.pgp_ids.specs.declared.member.Member.{Member}
use Rattle.pgp_ids.specs.declared.pg_id.PgId.{PgId}
use Rattle.pgp_ids.specs.declared.report.Info.{Info}
use Rattle.pgp_map.specs.Pools.{is_same_group}
use Rattle.pgp_group.specs.Entries.{infos_of}
use Rattle.pgp_group.specs.GroupLog.{GroupLog}
use Rattle.pgp_group.specs.Heard.{is_counted}

-- the infos of the group in a log, whether they are counted or not
abbrev pub infos_in : PgId → List Entry → List Info
infos_in pg log = filter (λ info. is_same_group info.pg pg) (infos_of log)

-- the group's info that the entry is
abbrev pub info_in : PgId → Entry → Option Info
info_in pg (entry.Inc inc) = None
info_in pg (entry.Info info) = if is_same_group info.pg pg then Some info else None
info_in pg (entry.Entries report) = None
info_in pg entry.Close = None

-- the log entries of the group's member that the entry reports, where it is a report that counts
abbrev pub entries_in : GroupLog → Member → Entry → List LogEntry
entries_in g member (entry.Inc inc) = []
entries_in g member (entry.Info info) = []
entries_in g member (entry.Entries report) =
    if is_same_group report.pg g.pg && (is_same_member report.member member && is_counted g report.member report.stamp) then report.log else []
entries_in g member entry.Close = []
