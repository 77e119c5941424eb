-- A map from name to version, beside the members of an object.
use Rattle.std.proofs.Common.{◌≡◌, List, [], ◌∷◌, String, Global, Ordering, Less, Equal, Greater, string_bytes, string_cmp, refl, ◌∙◌}
use Rattle.std.specs.Ordering.{match_ordering}
use Rattle.std.specs.BTreeMap.{insert_entry}
use Rattle.serde_json.specs.Data.{put}
use Rattle.pgp_ids.specs.declared.version.Version.{Version}
use Rattle.pgp_text.specs.Answered.{version_data}
use Rattle.pgp_text.specs.Versions.{versions_members}

abbrev Entry : Type 0
Entry = String Global × Version

members-match_ordering : (o : Ordering) (a b c : List Entry) → versions_members (match_ordering o a b c) ≡ match_ordering o (versions_members a) (versions_members b) (versions_members c)
members-match_ordering Less a b c = refl
members-match_ordering Equal a b c = refl
members-match_ordering Greater a b c = refl

-- an insert puts the version at its name
pub members-insert_entry : (es : List Entry) (k : String Global) (v : Version) → versions_members (insert_entry string_cmp es k v) ≡ put (string_bytes k) (version_data v) (versions_members es)
members-insert_entry [] k v = refl
members-insert_entry (e ∷ es) k v = members-match_ordering (string_cmp k e.0) _ _ _ ∙ rw (members-insert_entry es k v)

pub ruleset version_steps = (members-insert_entry)
