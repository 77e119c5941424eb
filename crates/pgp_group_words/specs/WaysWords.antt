-- What would bring a group back, in words.
use Rattle.std.specs.Prelude.{◌==◌, List, [], ◌∷◌, ◌++◌, Bool, true, false, ◌||◌, ◌&&◌, nat_lt, length, Option, Some, None, codes, decimal, string_bytes, if◌then◌else◌}
use Rattle.pgp_ids.specs.Names.{verdict_name}
use Rattle.pgp_ids.specs.Osds.{osd_count}
use Rattle.pgp_ids.specs.declared.verdict.Verdict.{Verdict}
use Rattle.pgp_ids.specs.declared.verdict.Verdict.TheVariants.{Down, Waiting}
use Rattle.pgp_reasons.specs.declared.fates.IntervalNow.{IntervalNow}
use Rattle.pgp_reasons.specs.declared.fates.Writes.{Writes}
use Rattle.pgp_reasons.specs.declared.fates.Writes.TheVariants.{Readable, Away, Gone}
use Rattle.pgp_reasons.specs.declared.ways.Ways.{Ways}
use Rattle.pgp_reasons.specs.declared.ways.Ways.TheVariants.{Any, Listed}
use Rattle.pgp_group_words.specs.Text.{Text, joined, line, text_of_each}
use Rattle.pgp_group_words.specs.Names.{device_names, are}
use Rattle.pgp_group_words.specs.Sentence.{sentence_of, few, naming_of, osds_part}
use Rattle.pgp_group_words.specs.Spans.{interval_epochs}
use Rattle.pgp_group_words.specs.declared.advice.Advice.{Advice}
use Rattle.pgp_group_words.specs.declared.explanation.Explanation.{Explanation}
use Rattle.pgp_group_words.specs.declared.offset.EpochOffset.{EpochOffset}
use Rattle.pgp_group_words.specs.declared.outcome.Outcome.{Outcome}
use Rattle.pgp_group_words.specs.declared.outcome.Then.{Then}
use Rattle.pgp_group_words.specs.declared.page.Naming.{Naming}

-- ---- what a group is after a way

abbrev pub has_to_wait : Verdict → Bool
has_to_wait Waiting = true
has_to_wait verdict = false

-- its acting set has too few members, or they hold too few shards
abbrev pub has_too_few : Explanation → Bool
has_too_few explanation = nat_lt (osd_count explanation.view.acting) explanation.pool.min_size || nat_lt 0 explanation.reasons.short.lacks

-- that it has too few besides, where it has yet to hear members
abbrev pub later_part : Explanation → Text
later_part explanation = if has_to_wait explanation.view.verdict && has_too_few explanation then codes " " ++ few explanation else []

-- what is said of it
unfoldable pub says_then : Explanation → EpochOffset → Text
says_then explanation offset = sentence_of (naming_of explanation offset) explanation ++ later_part explanation

-- ---- a way

-- what is done
unfoldable pub deed_line : Outcome → Text
deed_line outcome = line (
    osds_part (codes "start ") outcome.starts []
    ∷ (if length outcome.starts == 0 then [] else (if length outcome.losses == 0 then [] else codes " and "))
    ∷ osds_part (codes "declare ") outcome.losses (codes " lost")
    ∷ [])

-- what the group is then
abbrev pub then_line : Option Then → Text
then_line None = codes "    what it is then isn't known: the log takes no more\n"
then_line (Some after) = line (codes "    then " ∷ verdict_name after.verdict ∷ codes ": " ∷ string_bytes after.says ∷ [])

-- that it goes on without the writes of an interval, and which devices that are down may have them
unfoldable pub away_line : Naming → IntervalNow → Text
away_line naming interval = line (
    codes "    it goes on without what was written in "
    ∷ interval_epochs naming.offset interval
    ∷ codes ", at least: "
    ∷ device_names interval.down
    ∷ codes ", which "
    ∷ are (length interval.down)
    ∷ codes " down, may have it"
    ∷ [])

-- and that no devices have them
unfoldable pub gone_line : Naming → IntervalNow → Text
gone_line naming interval = line (
    codes "    it goes on without what was written in "
    ∷ interval_epochs naming.offset interval
    ∷ codes ", at least: too few of the devices that took it are left"
    ∷ [])

abbrev pub price_line_by : Writes → Naming → IntervalNow → Text
price_line_by Readable naming interval = []
price_line_by Away naming interval = away_line naming interval
price_line_by Gone naming interval = gone_line naming interval

-- what it costs by an interval
abbrev pub price_line : Naming → IntervalNow → Text
price_line naming interval = price_line_by interval.writes naming interval

-- that all is unreadable
abbrev pub unreadable_line : Bool → Text
unreadable_line is = if is then codes "    no object can be read then: too few devices are left of all that ever served\n" else []

-- a way: what is done, what the group is then, and what that costs
unfoldable pub outcome_lines : Naming → Outcome → Text
outcome_lines naming outcome = joined (
    deed_line outcome
    ∷ then_line outcome.after
    ∷ text_of_each [] (price_line naming) outcome.price.intervals
    ∷ unreadable_line outcome.price.unreadable
    ∷ [])

-- ---- all ways

-- each way with what follows, the later ones with `or` before them
unfoldable pub outcomes_lines : Naming → List Outcome → Text
outcomes_lines naming [] = []
outcomes_lines naming (first ∷ others) =
    joined (codes "  " ∷ outcome_lines naming first ∷ text_of_each (codes "  or ") (outcome_lines naming) others ∷ [])

abbrev pub ways_heading : Verdict → Text
ways_heading Down = codes "\nWhat ends Down:\n"
ways_heading verdict = codes "\nIt would be Down, too. What ends that:\n"

-- that any so many of some devices are enough; where one is enough, each of them is listed
unfoldable pub any_line : Ways → Text
any_line (Any any) =
    if any.least == 1 then [] else line (codes "  any " ∷ decimal any.least ∷ codes " of " ∷ device_names any.osds ∷ codes " will do, such as" ∷ [])
any_line (Listed listed) = []

-- there may be ways that aren't listed
abbrev pub may_be_more : Ways → Bool
may_be_more (Any any) = false
may_be_more (Listed listed) = listed.more

abbrev pub more_line : Ways → Text
more_line ways = if may_be_more ways then codes "  (there may be others)\n" else []

-- the ways that only start devices
unfoldable pub ways_lines : Naming → Advice → Text
ways_lines naming advice =
    if length advice.ways == 0 then []
    else joined (
    ways_heading advice.explanation.view.verdict
    ∷ any_line advice.explanation.reasons.ways
    ∷ outcomes_lines naming advice.ways
    ∷ more_line advice.explanation.reasons.ways
    ∷ [])

-- what stands above those that declare devices lost
abbrev pub resort_heading : Text
resort_heading = codes "\nLast resort, with no way back. First image each disk, or export what it has of the group (ceph-objectstore-tool\n--op export). A device that is declared lost is lost to all of its groups.\n"

-- the ways that declare devices lost, where these are wanted
unfoldable pub resort_lines : Naming → Option (List Outcome) → Text
resort_lines naming None = []
resort_lines naming (Some outcomes) = if length outcomes == 0 then [] else resort_heading ++ outcomes_lines naming outcomes
