-- The answer to a question about a group.
use Rattle.std.specs.Prelude.{List, [], ◌∷◌, ◌++◌, codes, fold}
use Rattle.serde_json.specs.Data.{Data, string, object, Members, no_members, put}
use Rattle.pgp_ids.specs.Names.{peer_state_name, verdict_name}
use Rattle.pgp_ids.specs.declared.peer.MissingObject.{MissingObject}
use Rattle.pgp_ids.specs.declared.peer.PeerMissing.{PeerMissing}
use Rattle.pgp_ids.specs.declared.peer.PeerState.{PeerState}
use Rattle.pgp_ids.specs.declared.peer.PeerState.TheVariants.{Missing, Backfill, Diverged}
use Rattle.pgp_ids.specs.declared.pg_id.PgId.{PgId}
use Rattle.pgp_ids.specs.declared.view.View.{View}
use Rattle.pgp_lines.specs.Op.{op_name}
use Rattle.pgp_lines.specs.declared.command.op.Op.TheVariants as op
use Rattle.pgp_text.specs.Json.{Field, object_with, number_data, list_data, option_data}
use Rattle.pgp_text.specs.Answered.{group_data, member_data, version_data, place_data, osds_data, intervals_data}

-- the members with one of this object's name at its place in ascending byte order, in place of any that has its name
abbrev pub with_object : Members → MissingObject → Members
with_object ms missing = put missing.object (version_data missing.version) ms

-- the objects that a peer lacks, in ascending byte order of their names: an object from name to version
abbrev pub objects_data : List MissingObject → Data
objects_data objects = object (fold with_object no_members objects)

-- the objects, where it is known which a peer of this state lacks
abbrev pub objects_fields : PeerState → List Field
objects_fields (Missing objects) = (codes "objects", objects_data objects) ∷ []
objects_fields Backfill = []
objects_fields Diverged = []

-- the state of a peer
abbrev pub missing_data : PeerMissing → Data
missing_data peer = object_with (
    (codes "member", member_data peer.member)
    ∷ (objects_fields peer.state ++ ((codes "state", string (peer_state_name peer.state)) ∷ [])))

-- all that is known of a group
abbrev pub asked_data : PgId → View → Data
asked_data pg v = object_with (
    (codes "acting", osds_data v.acting)
    ∷ (codes "acting_primary", place_data v.acting_primary)
    ∷ (codes "best", option_data member_data v.best)
    ∷ (codes "blocked_by", list_data number_data v.blocked_by)
    ∷ (codes "count", number_data v.count)
    ∷ (codes "epoch", number_data v.epoch)
    ∷ (codes "first", number_data v.first)
    ∷ (codes "intervals", intervals_data v.intervals)
    ∷ (codes "les", number_data v.les)
    ∷ (codes "missing", list_data missing_data v.missing)
    ∷ (codes "ok", string (op_name op.Ask))
    ∷ (codes "pg", group_data pg)
    ∷ (codes "probe", list_data member_data v.probe)
    ∷ (codes "up", osds_data v.up)
    ∷ (codes "up_primary", place_data v.up_primary)
    ∷ (codes "verdict", string (verdict_name v.verdict))
    ∷ [])
