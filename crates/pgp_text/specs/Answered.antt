-- Groups, members and intervals in answers.
use Rattle.std.specs.Prelude.{ℕ, List, [], ◌∷◌, codes, Option}
use Rattle.serde_json.specs.Data.{Data, boolean}
use Rattle.pgp_ids.specs.declared.member.Member.{Member}
use Rattle.pgp_ids.specs.declared.past.Past.{Past}
use Rattle.pgp_ids.specs.declared.pg_id.PgId.{PgId}
use Rattle.pgp_ids.specs.declared.version.Version.{Version}
use Rattle.pgp_text.specs.Json.{object_with, number_data, list_data, option_data}

-- two numbers
abbrev pub pair_data : ℕ → ℕ → Data
pair_data a b = list_data number_data (a ∷ b ∷ [])

-- [pool, pg]
abbrev pub group_data : PgId → Data
group_data group = pair_data group.pool group.pg

-- [device, slot]
abbrev pub member_data : Member → Data
member_data member = pair_data member.osd member.slot

-- [epoch, v]
abbrev pub version_data : Version → Data
version_data version = pair_data version.epoch version.v

-- a device's number; null for an empty place or an absent primary
abbrev pub place_data : Option ℕ → Data
place_data place = option_data number_data place

-- the places of a list of devices in order
abbrev pub osds_data : List (Option ℕ) → Data
osds_data places = list_data place_data places

-- a past interval
abbrev pub interval_data : Past → Data
interval_data past = object_with (
    (codes "acting", osds_data past.members.acting)
    ∷ (codes "acting_primary", place_data past.members.acting_primary)
    ∷ (codes "first", number_data past.first)
    ∷ (codes "last", number_data past.last)
    ∷ (codes "min_size", number_data past.members.min_size)
    ∷ (codes "rw", boolean past.rw)
    ∷ (codes "size", number_data past.members.size)
    ∷ (codes "up", osds_data past.members.up)
    ∷ (codes "up_primary", place_data past.members.up_primary)
    ∷ [])

-- past intervals in ascending order
abbrev pub intervals_data : List Past → Data
intervals_data past = list_data interval_data past
