-- Why a placement group doesn't serve, and what would end its waiting.
use Rattle.std.specs.Prelude.{◌≡◌, List, [], Option, Some, true, false}
use Rattle.std.specs.Option.{option_map_or}
use Rattle.pgp_ids.specs.declared.entry.Entry.{Entry}
use Rattle.pgp_ids.specs.declared.pg_id.PgId.{PgId}
use Rattle.pgp_ids.specs.declared.view.View.{View}
use Rattle.pgp_map.specs.Devices.{lost_at}
use Rattle.pgp_map.specs.MapOf.{IsMapOf}
use Rattle.pgp_map.specs.declared.map.OsdMap.{OsdMap}
use Rattle.pgp_sets.specs.Status.{status}
use Rattle.pgp_group.specs.Entries.{incs_of}
use Rattle.pgp_group.specs.GroupLog.{GroupLog, cleans, group_in, incs}
use Rattle.pgp_group.specs.Heard.{les, heard, reported}
use Rattle.pgp_group.specs.Peering.{past, prior, best}
use Rattle.pgp_group.specs.View.{scratch}
use Rattle.pgp_reasons.specs.Blocking.{blocking_of, clean_of}
use Rattle.pgp_reasons.specs.Copies.{copies_of}
use Rattle.pgp_reasons.specs.Gaps.{gaps_in}
use Rattle.pgp_reasons.specs.GroupWays.{brings_back}
use Rattle.pgp_reasons.specs.Short.{short_of}
use Rattle.pgp_reasons.specs.Smallest.{AreWays}
use Rattle.pgp_reasons.specs.declared.blocking.Blocking.{Blocking}
use Rattle.pgp_reasons.specs.declared.copies.Copies.{Copies}
use Rattle.pgp_reasons.specs.declared.fates.IntervalNow.{IntervalNow}
use Rattle.pgp_reasons.specs.declared.gap.Gap.{Gap}
use Rattle.pgp_reasons.specs.declared.reasons.Reasons.{Reasons}
use Rattle.pgp_reasons.specs.declared.short.Short.{Short}
use Rattle.pgp_reasons.specs.declared.ways.Ways.{Ways}
use Rattle.pgp_reasons.specs.declared.ways.Ways.TheVariants.{Listed}

-- the past intervals that block the group, in ascending order
abbrev pub blocking : GroupLog → List Blocking
blocking g = blocking_of g.history.code (status (incs g)) (lost_at (incs g)) (cleans g) (les g) (past g)

-- the last past interval in which the group was clean, of those that it has to reckon with
abbrev pub clean : GroupLog → Option IntervalNow
clean g = clean_of g.history.code (status (incs g)) (lost_at (incs g)) (cleans g) (les g) (past g)

-- the copies that were heard and may be followed
abbrev pub copies_heard : GroupLog → Copies
copies_heard g = copies_of g.history.code (best g) (heard g)

-- what the acting set lacks, and who of those that served with it is down
abbrev pub short : GroupLog → Short
short g = short_of g.history.code (status (incs g)) (les g) (past g) g.history.current.acting

-- the numbers of writes that the log of the best copy lacks; none where there is no best copy
abbrev pub gaps : GroupLog → List Gap
gaps g = option_map_or (λ info. gaps_in info (reported g info.member)) (best g) []

-- no sets are listed, and there are none
abbrev pub no_ways : Ways
no_ways = Listed (record { sets = []; more = false })

-- these are the smallest sets of the devices that the group waits for which end its waiting once they boot; where it isn't down,
-- none is listed
pub record AreWaysOf (g : GroupLog) (ways : Ways) : Type 0 where
  pub down : (prior g).down ≡ true → AreWays (brings_back g) (prior g).blocked_by ways
  pub up : (prior g).down ≡ false → ways ≡ no_ways

-- these are the reasons of the group: whom it has heard, what it waits for, the copies that may be followed, what its acting set
-- lacks, and the writes that the best copy's log lacks
pub record AreReasons (g : GroupLog) (reasons : Reasons) : Type 0 where
  pub heard_is : reasons.heard ≡ heard g
  pub blocking_is : reasons.blocking ≡ blocking g
  pub ways_are : AreWaysOf g reasons.ways
  pub clean_is : reasons.clean ≡ clean g
  pub copies_is : reasons.copies ≡ copies_heard g
  pub short_is : reasons.short ≡ short g
  pub gaps_is : reasons.gaps ≡ gaps g

-- the view is that of the group in a log, whose map is the last one
pub record IsViewed (log : List Entry) (map : OsdMap) (pg : PgId) (view : View) (g : GroupLog) : Type 0 where
  pub map_is : IsMapOf (incs_of log) map
  pub group_is : group_in log pg ≡ Some g
  pub view_is : scratch log pg ≡ Some view
