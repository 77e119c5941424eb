-- What intake, shard and client of an engine keep.
use Rattle.std.specs.Prelude.{◌≡◌, List}
use Rattle.logbook.specs.Pages.{Book}
use Rattle.pgp_ids.specs.declared.entry.Entry.{Entry}
use Rattle.pgp_group.specs.Entries.{incs_of}
use Rattle.pgp_log.specs.declared.judge.Judge.{Judge}
use Rattle.pgp_log.specs.Judge.{IsJudgeOf}
use Rattle.pgp_log.specs.Log.{IsFrontOf}
use Rattle.pgp_log.specs.RawSets.{AreRawSets}
use Rattle.pgp_shard.specs.Shard.{Shard}
use Rattle.pgp_feed.specs.Receipts.{entries_of, feed_of}
use Rattle.pgp_feed.specs.Taps.{last_of}
use Rattle.pgp_feed.specs.declared.receipt.Receipt.{Receipt}
use Rattle.pgp_feed.specs.declared.tap.Tap.{Tap}
use Rattle.pgp_engine.specs.Fronts.{Names}
use Rattle.pgp_engine.specs.kept.Followers.{HasTakenFront}
use Rattle.pgp_engine.specs.declared.client.chart.Chart.{Chart}

-- the judge has taken the entries of a front of this log
abbrev pub Follows : List Entry → Judge → Type 0
Follows log judge = HasTakenFront IsJudgeOf log judge

-- an intake: the told receipt and the one that the tap gave last are of this feed, and the judge has taken a front of what was
-- told
pub record IsIntake (feed : Book) (told last : Receipt) (judge : Judge) : Type 0 where
  pub told_is : feed_of told ≡ feed
  pub last_is : feed_of last ≡ feed
  pub judge_is : Follows (entries_of told) judge

-- a shard: its receipt names the entries that it has read, which its tap has given
pub record IsReader (feed : Book) (state : Shard) (stored last : Receipt) : Type 0 where
  pub named : Names feed state.front stored
  pub last_is : feed_of last ≡ feed
  pub seen : IsFrontOf state.front (entries_of last)

-- the chart has taken the entries of this log
pub record IsChartOf (log : List Entry) (chart : Chart) : Type 0 where
  pub judge_is : IsJudgeOf log chart.judge
  pub sets_are : AreRawSets (incs_of log) chart.sets

-- the chart has taken the first entries of this log, perhaps all
abbrev pub IsChartWithin : List Entry → Chart → Type 0
IsChartWithin log chart = HasTakenFront IsChartOf log chart

-- a client: tap and front are of this feed, and the chart is of what the front holds
pub record IsClientOf (feed : Book) (tap : Tap) (front : Receipt) (chart : Chart) : Type 0 where
  pub tap_is : feed_of (last_of tap) ≡ feed
  pub front_is : feed_of front ≡ feed
  pub chart_is : IsChartWithin (entries_of front) chart
