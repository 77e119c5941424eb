-- What is said of a group as JSON: one object, the keys of each object in ascending byte order.
use Rattle.std.specs.Prelude.{ℕ, List, [], ◌∷◌, ◌++◌, Option, Some, None, codes, string_bytes}
use Rattle.serde_json.specs.Data.{Data, string, boolean}
use Rattle.serde_json.specs.Written.{compact_text}
use Rattle.pgp_ids.specs.Names.{verdict_name}
use Rattle.pgp_ids.specs.declared.report.Info.{Info}
use Rattle.pgp_ids.specs.declared.version.Version.{Version}
use Rattle.pgp_reasons.specs.declared.blocking.Blocking.{Blocking}
use Rattle.pgp_reasons.specs.declared.copies.Copies.{Copies}
use Rattle.pgp_reasons.specs.declared.fates.IntervalNow.{IntervalNow}
use Rattle.pgp_reasons.specs.declared.fates.Writes.{Writes}
use Rattle.pgp_reasons.specs.declared.fates.Writes.TheVariants.{Readable, Away, Gone}
use Rattle.pgp_reasons.specs.declared.gap.Gap.{Gap}
use Rattle.pgp_reasons.specs.declared.ways.AnyOf.{AnyOf}
use Rattle.pgp_reasons.specs.declared.ways.Ways.{Ways}
use Rattle.pgp_reasons.specs.declared.ways.Ways.TheVariants.{Any, Listed}
use Rattle.pgp_text.specs.Answered.{pair_data, group_data, member_data, place_data, osds_data}
use Rattle.pgp_text.specs.Json.{Field, object_with, number_data, list_data, option_data}
use Rattle.pgp_group_words.specs.Text.{Text}
use Rattle.pgp_group_words.specs.Names.{cluster_epoch}
use Rattle.pgp_group_words.specs.Sentence.{naming_of, sentence_of, unheard_of}
use Rattle.pgp_group_words.specs.WaysWords.{may_be_more}
use Rattle.pgp_group_words.specs.declared.advice.Advice.{Advice}
use Rattle.pgp_group_words.specs.declared.explanation.Explanation.{Explanation}
use Rattle.pgp_group_words.specs.declared.offset.EpochOffset.{EpochOffset}
use Rattle.pgp_group_words.specs.declared.outcome.Outcome.{Outcome}
use Rattle.pgp_group_words.specs.declared.outcome.Then.{Then}

abbrev pub epoch_data : EpochOffset → ℕ → Data
epoch_data offset epoch = number_data (cluster_epoch offset epoch)

-- [epoch, number]
abbrev pub write_data : EpochOffset → Version → Data
write_data offset version = pair_data (cluster_epoch offset version.epoch) version.v

-- [first, last]
abbrev pub gap_data : Gap → Data
gap_data gap = pair_data gap.first gap.last

-- who sent an info, and when, how far its copy goes, and how far its log
abbrev pub info_data : EpochOffset → Info → Data
info_data offset info = object_with (
    (codes "complete", boolean info.complete)
    ∷ (codes "from", member_data info.member)
    ∷ (codes "history_les", epoch_data offset info.history_les)
    ∷ (codes "last_epoch_clean", epoch_data offset info.last_epoch_clean)
    ∷ (codes "last_update", write_data offset info.last_update)
    ∷ (codes "les", epoch_data offset info.les)
    ∷ (codes "log_tail", write_data offset info.log_tail)
    ∷ (codes "stamp", epoch_data offset info.stamp)
    ∷ [])

abbrev pub devices_data : List ℕ → Data
devices_data osds = list_data number_data osds

abbrev pub fate_name : Writes → Text
fate_name Readable = codes "readable"
fate_name Away = codes "away"
fate_name Gone = codes "gone"

-- a past interval: who served, what has become of them, and of its writes
abbrev pub interval_now_data : EpochOffset → IntervalNow → Data
interval_now_data offset interval = object_with (
    (codes "acting", osds_data interval.acting)
    ∷ (codes "down", devices_data interval.down)
    ∷ (codes "first", epoch_data offset interval.first)
    ∷ (codes "gone", devices_data interval.gone)
    ∷ (codes "last", epoch_data offset interval.last)
    ∷ (codes "lost", devices_data interval.lost)
    ∷ (codes "lost_before", devices_data interval.lost_before)
    ∷ (codes "up", devices_data interval.up)
    ∷ (codes "writes", string (fate_name interval.writes))
    ∷ [])

abbrev pub blocking_data : EpochOffset → Blocking → Data
blocking_data offset blocking = object_with (
    (codes "clean", option_data (epoch_data offset) blocking.clean)
    ∷ (codes "interval", interval_now_data offset blocking.interval)
    ∷ (codes "lacks", number_data blocking.lacks)
    ∷ [])

abbrev pub copies_data : Copies → Data
copies_data copies = object_with ((codes "lacks", number_data copies.lacks) ∷ (codes "members", list_data member_data copies.members) ∷ [])

-- ---- ways to end that a group is down

abbrev pub then_data : Then → Data
then_data after =
    object_with ((codes "says", string (string_bytes after.says)) ∷ (codes "verdict", string (verdict_name after.verdict)) ∷ [])

-- what is done, what the group is then, and what that costs
abbrev pub outcome_data : EpochOffset → Outcome → Data
outcome_data offset outcome = object_with (
    (codes "intervals", list_data (interval_now_data offset) outcome.price.intervals)
    ∷ (codes "lost", devices_data outcome.losses)
    ∷ (codes "start", devices_data outcome.starts)
    ∷ (codes "then", option_data then_data outcome.after)
    ∷ (codes "unreadable", boolean outcome.price.unreadable)
    ∷ [])

abbrev pub any_data : AnyOf → Data
any_data any = object_with ((codes "least", number_data any.least) ∷ (codes "osds", devices_data any.osds) ∷ [])

-- any so many of which devices are enough, if it is so
abbrev pub any_of : Ways → Option AnyOf
any_of (Any any) = Some any
any_of (Listed listed) = None

abbrev pub ways_data : EpochOffset → Advice → Data
ways_data offset advice = object_with (
    (codes "any", option_data any_data (any_of advice.explanation.reasons.ways))
    ∷ (codes "more", boolean (may_be_more advice.explanation.reasons.ways))
    ∷ (codes "sets", list_data (outcome_data offset) advice.ways)
    ∷ [])

-- ---- a group

-- where the group lies, since when, what blocks it, what its log lacks, and whom it has heard
abbrev pub place_fields : EpochOffset → Explanation → List Field
place_fields offset explanation =
    (codes "acting", osds_data explanation.view.acting)
    ∷ (codes "acting_primary", place_data explanation.view.acting_primary)
    ∷ (codes "blocking", list_data (blocking_data offset) explanation.reasons.blocking)
    ∷ (codes "clean", option_data (interval_now_data offset) explanation.reasons.clean)
    ∷ (codes "copies", copies_data explanation.reasons.copies)
    ∷ (codes "epoch", epoch_data offset explanation.view.epoch)
    ∷ (codes "first", epoch_data offset explanation.view.first)
    ∷ (codes "gaps", list_data gap_data explanation.reasons.gaps)
    ∷ (codes "heard", list_data (info_data offset) explanation.reasons.heard)
    ∷ []

-- the ways that declare devices lost, where these are wanted
abbrev pub resort_fields : EpochOffset → Option (List Outcome) → List Field
resort_fields offset None = []
resort_fields offset (Some outcomes) = (codes "last_resort", list_data (outcome_data offset) outcomes) ∷ []

-- when it last served, its verdict and the sentence on it, whom it has to hear yet, and the ways that only start devices
abbrev pub verdict_fields : EpochOffset → Advice → List Field
verdict_fields offset advice =
    (codes "les", epoch_data offset advice.explanation.view.les)
    ∷ (codes "pg", group_data advice.explanation.pg)
    ∷ (codes "says", string (sentence_of (naming_of advice.explanation offset) advice.explanation))
    ∷ (codes "unheard", list_data member_data (unheard_of advice.explanation))
    ∷ (codes "up", osds_data advice.explanation.view.up)
    ∷ (codes "up_primary", place_data advice.explanation.view.up_primary)
    ∷ (codes "verdict", string (verdict_name advice.explanation.view.verdict))
    ∷ (codes "ways", ways_data offset advice)
    ∷ []

-- what is said of a group
abbrev pub advice_data : EpochOffset → Advice → Data
advice_data offset advice = object_with (
    place_fields offset advice.explanation ++ (resort_fields offset advice.last_resort ++ verdict_fields offset advice))

-- as one line
unfoldable pub advice_json : Advice → EpochOffset → Text
advice_json advice offset = compact_text (advice_data offset advice) ++ 10 ∷ []
