-- The parts of a log of all that monitor and devices told, in the order of the log.
use Rattle.std.specs.Prelude.{List, Option, Some, None, filter_map}
use Rattle.pgp_ids.specs.declared.entry.Entry.{Entry}
use Rattle.pgp_ids.specs.declared.entry.Entry.TheVariants as entry
use Rattle.pgp_ids.specs.declared.incremental.Incremental.{Incremental}
use Rattle.pgp_ids.specs.declared.report.Info.{Info}
use Rattle.pgp_ids.specs.declared.report.Report.{Report}

abbrev pub inc_of : Entry → Option Incremental
inc_of (entry.Inc inc) = Some inc
inc_of (entry.Info info) = None
inc_of (entry.Entries report) = None
inc_of entry.Close = None

abbrev pub info_of : Entry → Option Info
info_of (entry.Inc inc) = None
info_of (entry.Info info) = Some info
info_of (entry.Entries report) = None
info_of entry.Close = None

abbrev pub report_of : Entry → Option Report
report_of (entry.Inc inc) = None
report_of (entry.Info info) = None
report_of (entry.Entries report) = Some report
report_of entry.Close = None

-- the map incrementals
abbrev pub incs_of : List Entry → List Incremental
incs_of log = filter_map inc_of log

-- the infos
abbrev pub infos_of : List Entry → List Info
infos_of log = filter_map info_of log

-- the reports of log entries
abbrev pub reports_of : List Entry → List Report
reports_of log = filter_map report_of log
