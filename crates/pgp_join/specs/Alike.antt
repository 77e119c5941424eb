-- When one log may stand for another: what entries and views read of its maps, of its groups and of its reports is the same in both
-- (this project's own choice).
use Rattle.std.specs.Prelude.{◌≡◌, ℕ, ◌≤◌, List, Option, Some, true, is_some, nat_le, length, filter}
use Rattle.pgp_code.specs.declared.any.AnyCode.{AnyCode}
use Rattle.pgp_ids.specs.declared.entry.Entry.{Entry}
use Rattle.pgp_ids.specs.declared.incremental.Incremental.{Incremental}
use Rattle.pgp_ids.specs.declared.past.Past.{Past}
use Rattle.pgp_ids.specs.declared.pg_id.PgId.{PgId}
use Rattle.pgp_ids.specs.declared.view.View.{View}
use Rattle.pgp_interval.specs.History.{History}
use Rattle.pgp_interval.specs.Runs.{current_first}
use Rattle.pgp_map.specs.Alike.{SayTheSame}
use Rattle.pgp_map.specs.Map.{epoch}
use Rattle.pgp_group.specs.Entries.{incs_of, infos_of, reports_of}
use Rattle.pgp_group.specs.GroupHistory.{group_history}
use Rattle.pgp_group.specs.GroupLog.{GroupLog, group_with}
use Rattle.pgp_group.specs.Heard.{les}
use Rattle.pgp_group.specs.Peering.{past}
use Rattle.pgp_log.specs.Fits.{is_closed}
use Rattle.pgp_log.specs.Log.{is_legal}

-- the maps have the same epoch, and say the same
pub record AreAlikeMaps (incs others : List Incremental) : Type 0 where
  pub epoch_is : epoch others ≡ epoch incs
  pub says : SayTheSame incs others

-- the past intervals that end with this epoch or later
abbrev pub ending_from : ℕ → List Past → List Past
ending_from les past = filter (λ p. nat_le les p.last) past

-- the group is alike in both logs: its current interval began in the same epoch, and the same past intervals end with the last epoch in
-- which it is known to have begun to serve, or later
pub record IsAlike (g other : GroupLog) : Type 0 where
  pub first_is : current_first other.history ≡ current_first g.history
  pub past_are : ending_from (les g) (past other) ≡ ending_from (les g) (past g)

-- the group is alike in both logs, where both maps have it
abbrev pub IsGroupAlike : (log other : List Entry) → PgId → Type 0
IsGroupAlike log other pg = (h now : History AnyCode) → group_history (incs_of log) pg ≡ Some h → group_history (incs_of other) pg ≡ Some now
    → IsAlike (group_with log pg h) (group_with other pg now)

-- both have the same infos, and the same reports of log entries, in the same order
abbrev pub HaveSameReports : (log other : List Entry) → Type 0
HaveSameReports log other = (infos_of other ≡ infos_of log) × (reports_of other ≡ reports_of log)

-- the logs agree in all but what they say of groups: both are closed, or open, and the other one is no longer than the first
abbrev pub AgreeApart : (log other : List Entry) → Type 0
AgreeApart log other =
    ((is_closed other ≡ is_closed log) × (length other ≤ length log)) × AreAlikeMaps (incs_of log) (incs_of other) × HaveSameReports log other

-- The logs have the same reports in the same order and maps that are alike, and each group is alike in both.
pub record AgreeOn (log other : List Entry) : Type 0 where
  pub maps_are : AreAlikeMaps (incs_of log) (incs_of other)
  pub infos_are : infos_of other ≡ infos_of log
  pub reports_are : reports_of other ≡ reports_of log
  pub groups_are : (pg : PgId) → IsGroupAlike log other pg

-- Both are legal besides, closed or open alike, and the other one is no longer than the first.
pub record AreAlike (log other : List Entry) : Type 0 where
  pub legal : is_legal log ≡ true
  pub other_legal : is_legal other ≡ true
  pub closed_is : is_closed other ≡ is_closed log
  pub no_longer : length other ≤ length log
  pub agree : AgreeOn log other

-- the second view differs from the first at most in the number of entries, and in past intervals that ended before the last epoch in
-- which the group is known to have begun to serve
pub record IsAlikeView (view other : View) : Type 0 where
  pub rest : other ≡ record view { count = other.count; intervals = other.intervals }
  pub intervals : ending_from view.les other.intervals ≡ ending_from view.les view.intervals

-- the view is there where the other one is, and is alike
pub record AreAlikeViews (view other : Option View) : Type 0 where
  pub there : is_some other ≡ is_some view
  pub alike : (a b : View) → view ≡ Some a → other ≡ Some b → IsAlikeView a b
