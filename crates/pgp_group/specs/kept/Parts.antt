-- The parts of a view, as the code of a group finds them.
use Rattle.std.specs.Prelude.{◌≡◌, List, Some, option_map, is_some}
use Rattle.pgp_info.specs.Heard.{Heard}
use Rattle.pgp_info.specs.Prefers.{prefers_with as prefers_by}
use Rattle.pgp_info.specs.declared.preference.Preference.{Preference}
use Rattle.pgp_ids.specs.declared.report.Info.{Info}
use Rattle.pgp_missing.specs.Kept.{IsLogOf}
use Rattle.pgp_group.specs.GroupLog.{GroupLog, reports}
use Rattle.pgp_group.specs.Heard.{heard, reported}
use Rattle.pgp_group.specs.kept.KeptReports.{AreLogsOf, member_log}
use Rattle.pgp_group.specs.Peering.{leader, best, whole_best, peer_states}
use Rattle.pgp_group.specs.Prefers.{prefers}
use Rattle.pgp_group.specs.declared.logs.CountedLog.{CountedLog}
use Rattle.pgp_group.specs.declared.group.best_copy.BestCopy.{BestCopy}

-- these are the infos that are heard, with the preference of the group's pool
pub record AreHeard (g : GroupLog) (found : Heard Preference) : Type 0 where
  pub infos : found.infos ≡ heard g
  pub prefer : prefers_by found.prefer ≡ prefers g.history.code (leader g)

-- these are the logs of the members by all reports that count, and that of the best info's member follows this info
pub record AreLogsHeard (g : GroupLog) (logs : List CountedLog) : Type 0 where
  pub each : AreLogsOf g (reports g) logs
  pub best_by_info : (info : Info) (log : CountedLog) → best g ≡ Some info → member_log info.member logs ≡ Some log
      → IsLogOf info (reported g info.member) log.log

-- this is the best copy of the group, and these are the states of the others
pub record IsBestCopy (g : GroupLog) (copy : BestCopy) : Type 0 where
  pub member : copy.member ≡ option_map (λ info. info.member) (best g)
  pub whole : copy.whole ≡ is_some (whole_best g)
  pub states : copy.states ≡ peer_states g
