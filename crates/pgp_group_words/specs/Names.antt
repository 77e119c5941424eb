-- How groups, devices, members and epochs are named in words: groups, devices and versions as Ceph writes them.
use Rattle.std.specs.Prelude.{ℕ, ◌+◌, ◌==◌, List, [], ◌∷◌, ◌++◌, Option, Some, None, false, codes, decimal, map, if◌then◌else◌}
use Rattle.std.specs.Fmt.{digits}
use Rattle.pgp_ids.specs.declared.member.Member.{Member}
use Rattle.pgp_ids.specs.declared.pg_id.PgId.{PgId}
use Rattle.pgp_ids.specs.declared.version.Version.{Version}
use Rattle.pgp_group_words.specs.Text.{Text, joined, listed, listed_with}
use Rattle.pgp_group_words.specs.declared.page.Naming.{Naming}
use Rattle.pgp_group_words.specs.declared.offset.EpochOffset.{EpochOffset}

-- an epoch as the cluster counts it, with an offset; epoch 0, before the first map, stays 0
abbrev pub cluster_epoch : EpochOffset → ℕ → ℕ
cluster_epoch offset epoch = if epoch == 0 then 0 else epoch + offset.0

abbrev pub epoch_name : EpochOffset → ℕ → Text
epoch_name offset epoch = decimal (cluster_epoch offset epoch)

-- a group: its pool, and its number in hexadecimal
abbrev pub group_name : PgId → Text
group_name group = joined (decimal group.pool ∷ codes "." ∷ digits 16 false group.pg ∷ [])

abbrev pub device_name : ℕ → Text
device_name osd = codes "osd." ++ decimal osd

-- devices in a sentence
abbrev pub device_names : List ℕ → Text
device_names osds = listed (map device_name osds)

-- who leads a group
abbrev pub leader_name : Option ℕ → Text
leader_name None = codes "nobody"
leader_name (Some osd) = device_name osd

-- a member, with its slot where it has one of its own
abbrev pub member_name : Naming → Member → Text
member_name naming member =
    if naming.by_place then joined (device_name member.osd ∷ codes "(" ∷ decimal member.slot ∷ codes ")" ∷ []) else device_name member.osd

-- a version of a write
abbrev pub version_name : EpochOffset → Version → Text
version_name offset version = joined (epoch_name offset version.epoch ∷ codes "'" ∷ decimal version.v ∷ [])

-- a place of up or acting
abbrev pub place_name : Option ℕ → Text
place_name None = codes "NONE"
place_name (Some osd) = decimal osd

-- the places of up or acting: [1, NONE, 2]
unfoldable pub places_name : List (Option ℕ) → Text
places_name places = joined (codes "[" ∷ listed_with (codes ", ") (map place_name places) ∷ codes "]" ∷ [])

-- the verb for this many
abbrev pub are : ℕ → Text
are count = if count == 1 then codes "is" else codes "are"

-- the noun for this many
abbrev pub plural : ℕ → (one more : Text) → Text
plural count one more = if count == 1 then one else more
