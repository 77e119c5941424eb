-- Versions by the names of their objects, as members of a JSON object.
use Rattle.std.specs.Prelude.{List, [], ◌∷◌, String, string_bytes}
use Rattle.std.specs.Global.{Global}
use Rattle.serde_json.specs.Data.{Members, no_members, member}
use Rattle.pgp_ids.specs.declared.version.Version.{Version}
use Rattle.pgp_text.specs.Answered.{version_data}

-- the members of a map from name to version, in its order
abbrev pub versions_members : List (String Global × Version) → Members
versions_members [] = no_members
versions_members (e ∷ es) = member (string_bytes e.0) (version_data e.1) (versions_members es)
