-- What is said of a summary, in words and as JSON.
use Rattle.std.specs.Prelude.{ℕ, ◌==◌, List, [], ◌∷◌, ◌++◌, Bool, ◌&&◌, nat_lt, length, flat_map, codes, decimal, if◌then◌else◌}
use Rattle.serde_json.specs.Data.{Data}
use Rattle.serde_json.specs.Written.{compact_text}
use Rattle.pgp_ids.specs.Names.{verdict_name}
use Rattle.pgp_ids.specs.declared.verdict.Verdict.{Verdict}
use Rattle.pgp_ids.specs.declared.verdict.Verdict.TheVariants.{NoPrimary, Down, Waiting, Incomplete, Short, NeedLog, NeedUpThru, Serve}
use Rattle.pgp_group.specs.Verdict.{in_order}
use Rattle.pgp_text.specs.Json.{Field, object_with, number_data, list_data}
use Rattle.pgp_group_words.specs.Text.{Text, joined, line}
use Rattle.pgp_group_words.specs.Names.{epoch_name, device_name, plural}
use Rattle.pgp_group_words.specs.Json.{epoch_data}
use Rattle.pgp_group_words.specs.declared.offset.EpochOffset.{EpochOffset}
use Rattle.pgp_whole.specs.Summary.{verdict_count}
use Rattle.pgp_whole.specs.declared.devices.DeviceWaits.{DeviceWaits}
use Rattle.pgp_whole.specs.declared.summary.Summary.{Summary}

-- ---- in words

-- how many groups there are, by the map of which epoch
unfoldable pub total_line : Summary → EpochOffset → Text
total_line summary offset = line (
    decimal (length summary.verdicts)
    ∷ codes " "
    ∷ plural (length summary.verdicts) (codes "group") (codes "groups")
    ∷ codes " at epoch "
    ∷ epoch_name offset summary.epoch
    ∷ [])

-- how many have this verdict, where some have it
unfoldable pub verdict_line : List Verdict → Verdict → Text
verdict_line verdicts verdict =
    if verdict_count verdicts verdict == 0 then []
    else line (codes "  " ∷ verdict_name verdict ∷ codes " " ∷ decimal (verdict_count verdicts verdict) ∷ [])

-- what a device does to this many groups, where there are some
unfoldable pub groups_part : Text → ℕ → Text
groups_part does count =
    if count == 0 then [] else joined (does ∷ codes " " ∷ decimal count ∷ codes " " ∷ plural count (codes "group") (codes "groups") ∷ [])

unfoldable pub frees_part : ℕ → Text
frees_part count = if count == 0 then [] else joined (codes ", and alone frees " ∷ decimal count ∷ [])

unfoldable pub between_part : DeviceWaits → Text
between_part device = if nat_lt 0 device.blocks.0 && nat_lt 0 device.awaited.0 then codes ", and " else []

-- how many groups a device blocks, how many of them it frees alone, and how many wait to hear from it
unfoldable pub device_line : DeviceWaits → Text
device_line device = line (
    device_name device.osd
    ∷ codes " "
    ∷ groups_part (codes "blocks") device.blocks.0
    ∷ frees_part device.frees.0
    ∷ between_part device
    ∷ groups_part (codes "has yet to be heard by") device.awaited.0
    ∷ [])

-- an empty line before the devices, where there are some
abbrev pub gap_before : List DeviceWaits → Text
gap_before devices = if length devices == 0 then [] else codes "\n"

unfoldable pub device_lines : List DeviceWaits → Text
device_lines devices = gap_before devices ++ flat_map device_line devices

-- what is said of a summary in words, of the verdicts in the order in which their causes are looked at
unfoldable pub summary_words : Summary → EpochOffset → Text
summary_words summary offset = joined (
    total_line summary offset
    ∷ flat_map (verdict_line summary.verdicts) in_order
    ∷ device_lines summary.devices
    ∷ [])

-- ---- as JSON

abbrev pub device_data : DeviceWaits → Data
device_data device = object_with (
    (codes "awaited", number_data device.awaited.0)
    ∷ (codes "blocks", number_data device.blocks.0)
    ∷ (codes "frees", number_data device.frees.0)
    ∷ (codes "osd", number_data device.osd)
    ∷ [])

-- a verdict that some group has
abbrev pub verdict_field : List Verdict → Verdict → List Field
verdict_field verdicts verdict =
    if verdict_count verdicts verdict == 0 then [] else (verdict_name verdict, number_data (verdict_count verdicts verdict)) ∷ []

-- the verdicts, in the ascending order of their names
abbrev pub verdicts_by_name : List Verdict
verdicts_by_name = Down ∷ Incomplete ∷ NeedLog ∷ NeedUpThru ∷ NoPrimary ∷ Serve ∷ Short ∷ Waiting ∷ []

unfoldable pub tally_fields : List Verdict → List Field
tally_fields verdicts = flat_map (verdict_field verdicts) verdicts_by_name

abbrev pub tally_data : List Verdict → Data
tally_data verdicts = object_with (tally_fields verdicts)

abbrev pub summary_data : EpochOffset → Summary → Data
summary_data offset summary = object_with (
    (codes "devices", list_data device_data summary.devices)
    ∷ (codes "epoch", epoch_data offset summary.epoch)
    ∷ (codes "groups", number_data (length summary.verdicts))
    ∷ (codes "verdicts", tally_data summary.verdicts)
    ∷ [])

unfoldable pub summary_json : Summary → EpochOffset → Text
summary_json summary offset = compact_text (summary_data offset summary) ++ 10 ∷ []

-- ---- either

-- what there is to say of the summary, as JSON or else in words
abbrev pub summary_text : Bool → Summary → EpochOffset → Text
summary_text json summary offset = if json then summary_json summary offset else summary_words summary offset
